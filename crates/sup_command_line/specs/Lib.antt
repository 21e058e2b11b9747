pub mod Words
pub mod Numbers
pub mod Weighings
pub mod Requests
pub mod BadOptions
