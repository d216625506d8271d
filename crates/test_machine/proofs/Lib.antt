pub mod Computed
pub mod Linked
