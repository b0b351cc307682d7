pub mod Entry
pub mod Spent
