pub mod Measures
pub mod Labelled
pub mod Wholes
pub mod Results
