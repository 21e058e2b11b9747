pub mod FindLaws
pub mod RankLaws
pub mod PlaceLaws
pub mod MoveLaws
pub mod ThereLaws
