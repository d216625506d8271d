-- The laws of the flow that gathers.
mod Lists
mod Covering
pub mod Lawful
mod Closed
mod Chains
mod Meets
mod Lowest
pub mod Least
