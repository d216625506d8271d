-- The laws of the flow from head to head.
pub mod Each
pub mod Through
pub mod Filled
pub mod Closed
pub mod Least
pub mod Lawful
