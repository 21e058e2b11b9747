pub mod Faults
pub mod Tells
pub mod Reading
pub mod Ends
