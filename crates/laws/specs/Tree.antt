-- Trees of pages: what is below a pointer, by level, slot and position.
pub mod Indexes
pub mod Levels
pub mod Node
pub mod Pointer
pub mod Positions
pub mod Roles
pub mod Slot
pub mod Weigh
