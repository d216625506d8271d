-- Arguments, the method that a call lands on, and its frame.
pub mod Classes
pub mod Constructors
pub mod Dispatched
pub mod Entered
pub mod Fine
pub mod Instance
pub mod Interfaces
pub mod Invoked
pub mod Push
pub mod Pushed
pub mod Resolved
pub mod Words
