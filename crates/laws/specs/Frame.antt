-- What a change of words leaves alone: trees, entries, rules.
pub mod Beside
pub mod Edit
pub mod EntryFile
pub mod Fields
pub mod Places
pub mod Quiet
pub mod Renewed
pub mod Rest
pub mod Roots
pub mod Still
