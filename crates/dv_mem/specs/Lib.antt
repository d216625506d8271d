pub mod Tops
pub mod Operands
pub mod Values
pub mod Elements
pub mod Payloads
pub mod Stepping
pub mod Laws
