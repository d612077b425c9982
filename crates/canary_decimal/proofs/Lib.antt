pub mod Alike
mod Signs
pub mod Digits
mod Tens
mod Nearness
pub mod Scaling
mod ReadsAll
mod Shorts
mod PointLemmas
mod EndingLemmas
mod EndingsApart
