pub mod Fills
pub mod Commits
