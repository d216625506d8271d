-- New objects, looked-up objects, and stores in cells.
pub mod Added
pub mod Cells
pub mod Interned
pub mod Stored
