pub mod Spots
pub mod Broken
pub mod Coincide
pub mod Listing
pub mod Decimal
