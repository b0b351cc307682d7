pub mod Sum
pub mod Search
