-- What only the code's contracts and proofs speak of.
pub mod Rounds
