pub mod Local
pub mod Spelled
pub mod Switching
pub mod Tops
pub mod Units
