pub mod Promises
pub mod Teams
