pub mod ByDot
pub mod Points
pub mod Places
pub mod Contents
pub mod RowLists
pub mod Index
