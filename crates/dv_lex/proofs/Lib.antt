mod Fronts
pub mod Grammar
pub mod Literals
pub mod Names
pub mod Rows
pub mod Spelled
pub mod Steps
