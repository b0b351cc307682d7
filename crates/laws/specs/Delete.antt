-- Files and users are deleted.
pub mod Entry
pub mod File
pub mod FileCall
pub mod User
