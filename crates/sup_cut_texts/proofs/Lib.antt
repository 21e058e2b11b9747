pub mod Levels
pub mod Behind
pub mod CutShort
pub mod CutTexts
