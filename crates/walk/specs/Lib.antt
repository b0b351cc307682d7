pub mod Walked
pub mod Short
pub mod Files
pub mod Held
