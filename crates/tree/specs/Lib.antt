pub mod Reach
pub mod Blocks
pub mod Ends
