pub mod Statics
pub mod RegTypes
pub mod Demands
pub mod Transfer
pub mod Flow
pub mod Joins
pub mod Accepting
