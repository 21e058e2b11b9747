pub mod Messages
pub mod Turns
pub mod Noted
