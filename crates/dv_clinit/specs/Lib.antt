pub mod Births
pub mod Initialisers
pub mod States
