pub mod Clean
pub mod Fitting
pub mod Laws
