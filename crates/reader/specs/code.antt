-- What only the code's contracts and proofs speak of.
pub mod Cursor
pub mod PostingReader
