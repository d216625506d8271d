pub mod Called
pub mod Selections
pub mod AtInsn
