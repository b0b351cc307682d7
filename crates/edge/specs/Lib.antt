pub mod Replied
pub mod OneReply
pub mod Salvages
