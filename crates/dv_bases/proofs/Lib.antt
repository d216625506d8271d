mod Copying
mod Naming
mod PartLaws
pub mod Wider
