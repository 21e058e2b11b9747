pub mod Faults
pub mod Placing
