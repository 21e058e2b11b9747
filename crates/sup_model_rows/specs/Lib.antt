pub mod Settled
pub mod Scripts
