pub mod Batch
pub mod Claims
pub mod code
