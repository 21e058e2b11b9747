pub mod Acts
pub mod Letters
pub mod SharedGates
