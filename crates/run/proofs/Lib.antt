pub mod Parts
pub mod Going
pub mod Replies
pub mod Offset
pub mod Flat
