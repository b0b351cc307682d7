-- Where a rule is broken: each rule against its row of places, and the first two holders of a page.
pub mod Lowest
pub mod Rules
pub mod Rule7
pub mod Pair
