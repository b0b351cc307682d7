-- From steps to calls, and sequences of calls.
pub mod After
pub mod Aside
pub mod Done
pub mod Open
pub mod Passes
pub mod Sequence
pub mod Singles
pub mod Write
