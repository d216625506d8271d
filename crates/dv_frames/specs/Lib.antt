pub mod Heads
pub mod Arena
pub mod Tops
