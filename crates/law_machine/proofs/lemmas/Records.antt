-- Class initialisation: the instructions that need it, records, and new threads.
pub mod Prior
pub mod Entered
pub mod Fine
pub mod Needed
pub mod Started
pub mod States
