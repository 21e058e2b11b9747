pub mod Lines
pub mod Drawn
