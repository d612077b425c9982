mod LineLemmas
mod JournalLemmas
mod Growing
mod Keys
mod OneLine
mod Pairs
mod KeptLemmas
pub mod NetworkLemmas
mod SettleLemmas
