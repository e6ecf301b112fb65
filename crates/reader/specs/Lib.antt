pub mod Reader
pub mod code
