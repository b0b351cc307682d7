-- Laws that proofs of this crate and of its users cite.
pub mod Bytes
pub mod Cut
pub mod Deciding
pub mod Parts
pub mod Slots
pub mod Stored
