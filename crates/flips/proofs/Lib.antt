pub mod Kept
pub mod Made
pub mod Rows
pub mod RowSteps
pub mod Cells
