pub mod Casts
pub mod Bounds
pub mod Signs
pub mod Crossing
pub mod Least
pub mod Extents
pub mod Corner
pub mod Checked
