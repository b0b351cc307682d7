-- Laws that proofs of this crate cite.
pub mod Entered
pub mod Heads
pub mod Held
pub mod Blocks
pub mod Files
pub mod Phases
pub mod Places
pub mod Shrinks
pub mod Walks
pub mod Deletes
