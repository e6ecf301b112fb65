-- What only the code's contracts and proofs speak of.
pub mod Records
pub mod Rounds
pub mod Search
pub mod Untouched
