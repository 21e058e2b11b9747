pub mod PlaceReads
pub mod Searches
pub mod EditTexts
pub mod NextLaws
pub mod DeltaTexts
