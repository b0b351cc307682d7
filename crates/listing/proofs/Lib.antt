pub mod Writing
pub mod Texts
pub mod Reports
pub mod Lengths
pub mod Longest
