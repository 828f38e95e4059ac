pub mod Changes
pub mod Shown
pub mod Meaning
pub mod Laws
