pub mod Head
pub mod Freeing
