pub mod Askings
pub mod Helps
pub mod Versions
pub mod Looks
pub mod Starts
pub mod Answers
