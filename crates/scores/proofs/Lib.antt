pub mod Claims
pub mod Fresh
pub mod Outcomes
pub mod Passing
pub mod Printing
