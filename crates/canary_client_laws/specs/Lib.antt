pub mod Senders
pub mod Delivery
pub mod Journaling
pub mod Settling
pub mod Understood
