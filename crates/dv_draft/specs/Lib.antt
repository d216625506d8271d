pub mod Draft
pub mod Pools
