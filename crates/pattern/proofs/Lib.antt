pub mod Cuts
pub mod WordLaws
pub mod LineLaws
pub mod BodyLaws
pub mod PartLaws
