-- Volumes written down: each rule says something.
pub mod Broken
pub mod BrokenLate
pub mod Fills
pub mod FirstUser
pub mod Leftovers
pub mod Where
pub mod Stale
pub mod Sparse
