pub mod Due
pub mod Filling
pub mod Packing
pub mod Reading
pub mod Scanning
pub mod Size
pub mod Walk
