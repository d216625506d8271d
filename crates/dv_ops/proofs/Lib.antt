pub mod Pieces
pub mod Tiles
pub mod Passing
pub mod Standing
pub mod Classes
pub mod Fetched
