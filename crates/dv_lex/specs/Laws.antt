-- The laws of lines, tokens, numbers, literals and names.
pub mod Grammar
pub mod Lines
pub mod Literals
pub mod Names
pub mod Numbers
