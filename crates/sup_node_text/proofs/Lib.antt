pub mod LoserLaws
pub mod InspectionLaws
