pub mod Attending
pub mod Crowd
pub mod Moments
pub mod Sums
pub mod Waiting
