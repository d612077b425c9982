mod Committed
pub mod Inserts
mod Making
mod Meta
mod Readings
mod Remaking
mod RemakingTexts
mod Rising
mod Texts
pub mod Went
mod Wholes
