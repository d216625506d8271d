pub mod Hierarchy
pub mod Laws
