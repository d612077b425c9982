mod DrawnLemmas
mod PageLemmas
