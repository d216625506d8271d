pub mod Bases
pub mod Copies
pub mod Words
pub mod States
