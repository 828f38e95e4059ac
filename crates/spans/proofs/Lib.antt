pub mod Counts
pub mod ChangeLaws
pub mod PlaceLaws
pub mod StepLaws
pub mod RunLaws
pub mod CallLaws
