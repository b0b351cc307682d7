pub mod Row
pub mod Applied
pub mod Filled
pub mod Facts
pub mod Mending
