-- Exceptions in flight find their handlers.
pub mod Callers
pub mod Flown
pub mod Handlers
pub mod Made
pub mod Records
pub mod Rises
