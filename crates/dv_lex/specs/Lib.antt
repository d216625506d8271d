pub mod Bytes
pub mod Lexemes
pub mod Literals
pub mod Numbers
pub mod NumberParts
pub mod Grammar
pub mod Lines
pub mod Laws
