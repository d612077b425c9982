pub mod Readings
pub mod Members
pub mod Templates
pub mod Rollouts
pub mod Commands
