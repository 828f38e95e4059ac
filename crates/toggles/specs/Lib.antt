pub mod Search
pub mod Toggled
pub mod Present
