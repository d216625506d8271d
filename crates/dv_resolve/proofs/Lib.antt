pub mod LinkedLaws
mod Added
mod Declared
mod Walking
pub mod PoolLaws
pub mod IdLaws
pub mod OrderLaws
pub mod DeclarerLaws
pub mod MainLaws
