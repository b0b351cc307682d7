pub mod Shapes
pub mod Seen
pub mod Objects
pub mod Counts
