pub mod Nodes
pub mod Verdicts
pub mod Links
pub mod Commands
pub mod Script
pub mod Scripts
