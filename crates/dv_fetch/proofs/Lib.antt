pub mod Bodiless
pub mod Formats
pub mod Found
