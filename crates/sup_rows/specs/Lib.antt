pub mod Outcomes
pub mod Plays
