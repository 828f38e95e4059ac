pub mod Cells
pub mod Marks
pub mod Board
pub mod Laws
pub mod Ties
