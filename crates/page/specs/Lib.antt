pub mod Claims
pub mod Figures
pub mod Page
pub mod ReadBack
pub mod code
