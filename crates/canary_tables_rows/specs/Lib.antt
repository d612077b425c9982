pub mod Tables
pub mod Changes
pub mod Limits
pub mod Newest
