pub mod Requests
pub mod Numbers
