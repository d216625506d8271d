pub mod Walks
pub mod Joining
pub mod Reading
pub mod IndexLaws
pub mod Selections
pub mod FieldWalks
pub mod FieldSearch
