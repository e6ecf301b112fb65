pub mod Bounds
pub mod Rank
pub mod Rising
pub mod Tests
