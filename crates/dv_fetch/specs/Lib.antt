pub mod Opcodes
pub mod Standing
pub mod Spelled
