pub mod Journals
pub mod Lateness
pub mod Plans
pub mod Reports
pub mod Takings
