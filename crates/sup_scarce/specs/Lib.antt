pub mod Scarcity
