pub mod Events
mod Runs
mod Named
mod NameMaps
mod LastItems
mod CallerMaps
mod Keeping
pub mod BookLemmas
pub mod MessageLemmas
pub mod TemplateLemmas
pub mod Histories
pub mod Worlds
mod Rows
mod Lawful
mod Settled
mod Statuses
mod Soundness
mod KeptPasts
mod KeptRecords
mod KeptChanges
mod ViewsJoined
mod ViewsAfter
mod ViewsPassed
mod RowsOfQueries
