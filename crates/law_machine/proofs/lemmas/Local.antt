-- A thread at an instruction, and the steps that touch its frame alone.
pub mod Fine
pub mod Stands
pub mod Steps
pub mod Still
