pub mod Errors
pub mod Images
pub mod Laws
