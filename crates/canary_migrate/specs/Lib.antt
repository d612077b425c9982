pub mod Migrated
pub mod FirstContents
pub mod Fills
pub mod Migrates
