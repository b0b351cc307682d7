-- Pages counted: who holds a page, how many are free, charged and visited.
pub mod Charge
pub mod Good
pub mod Holder
pub mod Owners
pub mod Pages
pub mod Reach
pub mod Room
pub mod Sums
pub mod Unflagged
pub mod Who
