pub mod Turns
pub mod Numbers
pub mod Sides
pub mod Calls
pub mod Rows
