pub mod CommandLine
pub mod Unclear
