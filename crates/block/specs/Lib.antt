pub mod Block
pub mod code
