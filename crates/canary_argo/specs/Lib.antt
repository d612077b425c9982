pub mod Tokens
pub mod Trees
pub mod Spelling
pub mod Grouping
pub mod Meaning
pub mod Reporting
pub mod Translating
pub mod Labels
