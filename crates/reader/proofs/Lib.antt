pub mod Cursors
pub mod Readings
