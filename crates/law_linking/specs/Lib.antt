pub mod Stripped
pub mod Ordered
pub mod FieldPlaces
