-- Numbers as they are written.
pub mod Digits
pub mod Printed
pub mod Texts
pub mod Words
