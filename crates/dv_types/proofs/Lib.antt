mod Same
pub mod Below
mod Registers
pub mod Table
pub mod Levels
mod Raising
