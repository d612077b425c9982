pub mod Exactness
pub mod Spelling
pub mod Reader
pub mod Short
pub mod Points
pub mod Endings
pub mod Texts
