pub mod EditLaws
pub mod StepParts
