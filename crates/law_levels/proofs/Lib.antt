-- The laws of shallow registers.
pub mod Shallow
pub mod Bounds
