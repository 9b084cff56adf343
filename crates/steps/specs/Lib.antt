pub mod Stepped
pub mod StepLaws
pub mod RunLaws
