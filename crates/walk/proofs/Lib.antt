-- Laws that proofs of this crate and of its users cite.
pub mod Lows
pub mod Walks
pub mod Short
pub mod Pointers
pub mod Runs
pub mod Rows
pub mod Entries
pub mod Holding
pub mod Judged
