pub mod Refusals
pub mod Sides
pub mod BoxSides
