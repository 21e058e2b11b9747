pub mod Place
pub mod Weights
pub mod Moves
pub mod Assigned
