pub mod Called
pub mod GatheredResults
pub mod PlannedRuns
pub mod Launches
pub mod Wires
pub mod Teams
