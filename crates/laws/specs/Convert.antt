-- Conversion: every name and type with another fill.
pub mod Refilled
pub mod Pass
pub mod Kinds
pub mod Volume
pub mod Filled
pub mod Back
pub mod Call
pub mod Trip
