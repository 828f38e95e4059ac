pub mod BoxLaws
pub mod Odd
pub mod RowLaws
pub mod RunLaws
