pub mod Rounds
pub mod Twice
pub mod Sorting
