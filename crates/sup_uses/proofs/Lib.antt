pub mod ActLaws
pub mod SharedCallLaws
