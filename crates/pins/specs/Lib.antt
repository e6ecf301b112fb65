pub mod Events
pub mod Lists
