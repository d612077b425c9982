mod Fitting
mod Alike
mod Readings
mod RowsOfCommands
mod Named
mod Copying
mod LineLemmas
mod RowsOfLines
mod Unreadable
mod Settling
mod Analyses
mod Accepting
mod Seen
mod Rows
pub mod BoundAlike
pub mod Distinct
pub mod BoundRevisions
