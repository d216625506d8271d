-- Writes to registers, and what a constructor leaves of them.
pub mod Made
pub mod Written
