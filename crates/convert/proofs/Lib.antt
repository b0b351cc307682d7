-- Laws that proofs of this crate cite.
pub mod Fields
pub mod Entries
pub mod Passes
