pub mod Opened
pub mod Run
pub mod Watching
