-- The lines of a class.
pub mod Flags
pub mod Text
pub mod Read
