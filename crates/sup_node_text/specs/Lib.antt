pub mod Lines
pub mod Shown
pub mod Cuts
pub mod Inspected
