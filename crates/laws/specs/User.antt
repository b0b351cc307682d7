-- Only a user's entry and the unreserved count change.
pub mod Give
pub mod Move
pub mod Only
pub mod Words
