-- Facts that many topics use: objects and registers, lists, members, the code of methods, and conformity along the order of states.
pub mod Conformity
pub mod Facts
pub mod Lists
pub mod Members
pub mod MethodCode
