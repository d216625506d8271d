-- Monitors and waiting stay in order.
pub mod Fine
pub mod Lists
pub mod Moved
pub mod Owners
pub mod Steps
