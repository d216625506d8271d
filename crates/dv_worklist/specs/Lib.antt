pub mod Beside
pub mod Flow
pub mod Numbered
pub mod Waiting
pub mod Work
