-- The laws that tie the worklist's least assignment to typings.
mod Each
mod Rises
pub mod Tiles
mod Ordered
mod Onwards
pub mod Lawful
pub mod Closed
pub mod ByAddress
pub mod Judged
