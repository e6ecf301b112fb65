-- What only the code's contracts and proofs speak of.
pub mod Due
pub mod Merge
pub mod Old
pub mod Plan
pub mod Tally
