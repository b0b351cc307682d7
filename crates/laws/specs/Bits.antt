-- Bits and pages in hand: chosen, claimed, marked, given back.
pub mod Choose
pub mod Claim
pub mod Claims
pub mod Freed
pub mod Mark
pub mod Marked
pub mod OnePage
pub mod Painted
pub mod Runs
pub mod Taking
