pub mod Drives
pub mod Faults
pub mod Jobs
pub mod NodeCalls
pub mod Requests
pub mod Rounds
