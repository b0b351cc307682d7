-- A formatted volume.
pub mod Call
pub mod Formatted
pub mod Volume
