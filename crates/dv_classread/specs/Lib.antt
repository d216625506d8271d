pub mod ClassLines
pub mod FieldBits
pub mod Methods
pub mod Texts
pub mod Classes
pub mod Assembling
pub mod Schedules
pub mod Programs
