pub mod ZipLaws
pub mod RunEndItemLaws
pub mod ReturnedPassLaws
pub mod PlacedPassLaws
pub mod DealtPassLaws
mod JoinedPassLaws
mod CloseLaws
mod FaultlessLaws
