-- The rules of releases: commands, entering a step, passing time, and reports.
pub mod Commands
pub mod Entering
pub mod Passing
pub mod Recording
pub mod Reporting
pub mod Reports
