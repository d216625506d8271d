-- A well-typed state stays so as objects are added, and after a step of one thread.
pub mod Keeps
pub mod Kinds
pub mod Threads
