pub mod Prints
pub mod Plays
pub mod PlayedLines
pub mod SimulatedScripts
pub mod PerformedRequests
pub mod Runs
