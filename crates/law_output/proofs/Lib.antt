pub mod Parts
pub mod Instructions
pub mod Steps
