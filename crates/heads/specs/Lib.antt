pub mod Slots
pub mod Span
pub mod Fine
pub mod Twins
pub mod Stamps
