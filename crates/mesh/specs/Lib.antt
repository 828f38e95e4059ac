pub mod Means
pub mod Chains
pub mod Tetrahedra
