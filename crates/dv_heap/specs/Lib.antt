pub mod Blocks
pub mod Objects
pub mod Fields
pub mod Answers
pub mod Keeping
pub mod Placing
