pub mod Skins
pub mod Coats
