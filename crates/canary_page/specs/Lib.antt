pub mod Drawn
pub mod Lateness
