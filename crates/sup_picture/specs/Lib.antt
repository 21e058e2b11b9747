pub mod Messages
pub mod Arrows
pub mod Turns
pub mod Children
