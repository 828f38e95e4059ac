pub mod Flips
pub mod Drawn
