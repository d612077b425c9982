mod PieceLemmas
mod EscapeLemmas
mod LinkLemmas
