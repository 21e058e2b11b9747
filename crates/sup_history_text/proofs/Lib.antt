pub mod LineLaws
pub mod OnlyBeginLaws
pub mod OrderLaws
pub mod ReadingLaws
pub mod WholeLaws
