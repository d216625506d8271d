pub mod Truth
pub mod Steps
pub mod Places
pub mod Pools
pub mod Units
pub mod Ranges
pub mod Again
