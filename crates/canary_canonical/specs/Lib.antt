pub mod Forms
pub mod Reads
pub mod Texts
pub mod Objects
pub mod Readings
pub mod Laws
