pub mod EditLaws
pub mod LineLaws
pub mod FileLaws
pub mod AppendLaws
pub mod DigitLaws
pub mod WrittenLaws
pub mod CommonLaws
pub mod ChangeLaws
