pub mod Histories
pub mod Kinds
pub mod Lines
pub mod Readings
pub mod Sessions
