-- A file loses its last page.
pub mod Call
pub mod Indexed
pub mod Returned
pub mod Shrunk
pub mod Step
pub mod Subindexed
