-- A file grows by one page.
pub mod Call
pub mod Grown
pub mod Indexed
pub mod Space
pub mod Step
pub mod Subindexed
