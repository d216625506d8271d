-- What the functions of the code are proved by.
pub mod Bytes
pub mod Lines
pub mod Appends
pub mod Tiles
pub mod LookUps
