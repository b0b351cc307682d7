-- Laws that proofs of this crate and of its users cite.
pub mod Ready
pub mod Fields
pub mod Taking
pub mod Between
pub mod Made
pub mod Needs
pub mod Spent
