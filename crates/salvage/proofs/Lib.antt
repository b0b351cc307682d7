-- Laws that the proofs of this crate cite.
pub mod Sweep
pub mod Words
pub mod Rows
pub mod Stored
pub mod Collecting
pub mod Joined
pub mod Counting
pub mod Closing
