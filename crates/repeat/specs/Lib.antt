pub mod Repeats
pub mod code
