pub mod Joins
pub mod Buffers
pub mod Shipments
pub mod Contents
pub mod Peers
pub mod Settling
pub mod Promises
