pub mod Laying
pub mod Tagging
pub mod FieldWords
pub mod Kept
pub mod Bits
pub mod Noting
