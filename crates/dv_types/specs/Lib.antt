pub mod Under
pub mod Classes
pub mod Numbers
pub mod Rows
