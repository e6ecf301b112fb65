pub mod Layout
pub mod Scan
pub mod Sound
