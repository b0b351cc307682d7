pub mod Late
pub mod Told
