pub mod Hierarchies
pub mod Tables
pub mod Upwards
pub mod Slots
pub mod Interfaces
pub mod Ancestors
