-- Laws that proofs of this crate and of its users cite.
pub mod Ready
pub mod Written
pub mod Formatted
