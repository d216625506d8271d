pub mod Stacks
pub mod Kept
pub mod Owning
pub mod Starting
pub mod Stepping
