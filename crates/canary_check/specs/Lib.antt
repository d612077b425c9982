pub mod Attempts
pub mod Taken
pub mod Waiting
