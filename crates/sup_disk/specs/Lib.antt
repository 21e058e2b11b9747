pub mod Crashes
pub mod Copies
pub mod Faults
pub mod Paths
