pub mod Orders
pub mod Declarers
pub mod Members
pub mod Answers
pub mod Firsts
pub mod Passes
pub mod Ids
pub mod Mains
