mod Going
mod Hopping
mod Marking
mod Planning
pub mod Stepping
mod Walking
