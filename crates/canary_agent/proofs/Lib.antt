mod EntryLemmas
mod LookLemmas
mod TakingLemmas
