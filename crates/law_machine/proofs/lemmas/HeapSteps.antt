-- The instructions on objects, arrays and fields, and those that make objects.
pub mod Arrays
pub mod Cells
pub mod Elements
pub mod Fields
pub mod Filled
pub mod Fine
pub mod Left
pub mod Members
pub mod Places
pub mod Plain
pub mod Stores
