pub mod Addresses
pub mod Replies
pub mod Fronts
pub mod Unreads
pub mod Locals
pub mod Reading
pub mod Asking
pub mod Asked
