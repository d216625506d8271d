-- The state in which a run begins.
pub mod Cells
pub mod Heap
pub mod State
