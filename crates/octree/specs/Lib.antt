pub mod Regions
pub mod Trees
pub mod Meaning
pub mod Laws
pub mod OnTheWay
