pub mod Words
pub mod LateReaders
pub mod LockedFiles
pub mod Ends
pub mod Reasons
pub mod Started
