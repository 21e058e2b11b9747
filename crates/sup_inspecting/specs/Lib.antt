pub mod Faults
pub mod InspectedImages
