pub mod Landings
pub mod Returns
pub mod Stepping
