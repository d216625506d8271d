pub mod First
pub mod Items
pub mod Places
pub mod Refusals
pub mod Switches
pub mod Layout
pub mod Ranges
pub mod Tiles
