pub mod Fronts
pub mod Endings
