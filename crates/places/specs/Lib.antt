pub mod Found
pub mod Low
pub mod Tell
pub mod Rows
