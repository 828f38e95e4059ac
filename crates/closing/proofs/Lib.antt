pub mod Points
pub mod Loose
pub mod Closes
