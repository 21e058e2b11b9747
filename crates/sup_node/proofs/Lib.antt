pub mod PlacingLaws
pub mod StepLaws
pub mod PlanLaws
pub mod WholeStates
pub mod TouchLaws
pub mod OpenedLaws
pub mod IntakeLaws
