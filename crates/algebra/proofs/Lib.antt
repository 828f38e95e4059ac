pub mod IntRing
pub mod Ring
pub mod Order
pub mod Parity
pub mod Tests
