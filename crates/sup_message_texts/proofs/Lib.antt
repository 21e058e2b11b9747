pub mod Runs
pub mod KeptRows
pub mod Tests
pub mod WholeStates
pub mod MessageTexts
