pub mod Kept
pub mod Lent
pub mod Moves
pub mod Runs
pub mod Written
