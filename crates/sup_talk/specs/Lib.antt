pub mod Taking
pub mod Hosts
pub mod Talking
