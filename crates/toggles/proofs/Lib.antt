pub mod Rising
pub mod Shifted
pub mod Sizes
pub mod Toggling
