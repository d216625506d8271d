-- Returns, and the frame of the caller after them.
pub mod Built
pub mod Caller
pub mod Constructed
pub mod Fine
pub mod Shape
