-- Laws that proofs of this crate and of its users cite.
pub mod Reach
pub mod Entries
pub mod Blocks
pub mod Absent
pub mod Ready
