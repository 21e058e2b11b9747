pub mod SettleRunLaws
pub mod PlayedRunLaws
pub mod PrintedLineLaws
pub mod DryLineLaws
pub mod PlayedLineLaws
pub mod WholeScriptLaws
pub mod EndingLaws
