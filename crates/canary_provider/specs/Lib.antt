pub mod Texts
pub mod Answers
pub mod Paths
pub mod Lines
pub mod Messages
pub mod Plans
