-- Laws that proofs of this crate and of its users cite.
pub mod Leasts
pub mod Passing
pub mod Classes
pub mod Filing
pub mod ByKind
pub mod Turning
pub mod Telling
