pub mod OwnCallLaws
pub mod HistorySublistLaws
pub mod ReturnedTeamLaws
pub mod ShuffleImageLaws
pub mod PassPlaceLaws
pub mod FinishedRunLaws
