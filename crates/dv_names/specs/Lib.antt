pub mod Descriptors
pub mod Grammar
pub mod Faults
pub mod Parts
pub mod Units
pub mod Written
