pub mod Claims
pub mod Outcome
