pub mod Adding
pub mod Cutting
pub mod Naming
pub mod Popping
pub mod Room
pub mod Bits
