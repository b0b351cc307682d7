-- Laws that proofs of this crate and of its users cite.
pub mod Each
pub mod Blocks
pub mod Files
pub mod Objects
pub mod Sums
pub mod Users
pub mod Memory
