pub mod Geometry
pub mod Cells
pub mod Closed
pub mod Range
pub mod Numbers
pub mod Points
pub mod Read
pub mod Extents
