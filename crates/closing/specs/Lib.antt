pub mod Order
pub mod Holds
pub mod Means
