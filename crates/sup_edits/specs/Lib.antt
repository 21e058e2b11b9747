pub mod Edits
pub mod Steps
