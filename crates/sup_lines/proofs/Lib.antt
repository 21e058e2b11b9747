pub mod Texts
pub mod Loops
pub mod WordValues
