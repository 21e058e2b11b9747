pub mod DrawnScripts
pub mod Runs
