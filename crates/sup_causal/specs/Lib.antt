pub mod Join
pub mod Merge
pub mod Walk
pub mod Dots
pub mod DotLaws
pub mod Cut
pub mod Greatest
pub mod Parts
