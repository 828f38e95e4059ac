pub mod Ranges
pub mod Marks
pub mod Cells
pub mod Extents
