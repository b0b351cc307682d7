pub mod File
pub mod Marks
pub mod Run
pub mod Search
pub mod Taken
pub mod Word
