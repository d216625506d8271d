pub mod KindTypes
pub mod Interfaces
