pub mod BirthLaws
pub mod Declared
pub mod Numbered
pub mod Marking
pub mod Noting
pub mod PriorLaws
pub mod Writing
