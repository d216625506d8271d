pub mod Slots
pub mod Waits
pub mod State
pub mod Errors
pub mod Entering
