-- Laws that proofs of this crate and of its users cite.
pub mod Digits
pub mod Places
pub mod Marked
pub mod Runs
pub mod BitsIn
pub mod Upwards
pub mod Paired
pub mod Downwards
pub mod Taken
