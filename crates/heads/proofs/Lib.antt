-- Laws that proofs of this crate and of its users cite.
pub mod Slots
pub mod Heads
pub mod Pages
pub mod Alike
pub mod Each
pub mod Judged
pub mod Blocks
pub mod Hashed
