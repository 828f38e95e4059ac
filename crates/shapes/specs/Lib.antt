pub mod Entries
pub mod Named
pub mod ByNine
pub mod Boxes
