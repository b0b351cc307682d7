-- Salvage: bits and counts made anew from the pointers, and the list of what changes.
pub mod Apart
pub mod Counted
pub mod Mended
pub mod Again
pub mod Changes
pub mod Most
pub mod Call
