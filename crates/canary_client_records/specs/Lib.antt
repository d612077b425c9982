pub mod Devices
pub mod Texts
pub mod Stores
pub mod Memory
pub mod Past
pub mod Laws
