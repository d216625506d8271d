pub mod Beginnings
pub mod Hops
pub mod Marks
pub mod Plans
pub mod Steps
pub mod Ways
