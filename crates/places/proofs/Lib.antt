-- Laws that proofs of this crate and of its users cite.
pub mod Owners
pub mod Finding
pub mod Bits
pub mod Meeting
pub mod Steps
pub mod All
pub mod Pointed
pub mod Filed
pub mod Headed
pub mod Passing
pub mod Shaped
pub mod Telling
pub mod Indexed
pub mod Counted
pub mod Owned
