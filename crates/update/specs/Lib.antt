pub mod Answer
pub mod Forecast
pub mod Pass
pub mod Step
pub mod code
