pub mod Following
pub mod MessageCells
pub mod Ended
pub mod Endings
pub mod Held
