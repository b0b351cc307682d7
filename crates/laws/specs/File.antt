-- Files: kinds, names, costs, the entry of a file and of its owner.
pub mod Around
pub mod Cost
pub mod Fill
pub mod Finish
pub mod Finished
pub mod Kinds
pub mod Named
pub mod Owned
pub mod Packed
pub mod Readings
pub mod Stored
pub mod ZeroFilled
