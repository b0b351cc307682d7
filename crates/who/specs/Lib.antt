pub mod Least
pub mod Turns
pub mod Search
