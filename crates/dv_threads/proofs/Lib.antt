pub mod Written
pub mod Leaving
pub mod Owning
pub mod Begins
pub mod Runs
pub mod Families
pub mod Addresses
pub mod Operands
