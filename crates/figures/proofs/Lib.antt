pub mod Claims
pub mod Figures
pub mod Reading
pub mod Writing
