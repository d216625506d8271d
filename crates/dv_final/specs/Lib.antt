pub mod Final
pub mod Laws
