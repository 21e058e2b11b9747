pub mod PassCallLaws
pub mod RoundLaws
pub mod WirePutLaws
pub mod ItemPlaceLaws
pub mod LinkEndLaws
pub mod LaunchLaws
