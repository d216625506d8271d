pub mod Along
pub mod Errors
pub mod Filling
pub mod Judged
pub mod Leaps
pub mod Owned
pub mod Straight
