pub mod Parts
pub mod Sublists
pub mod Calls
pub mod Plans
