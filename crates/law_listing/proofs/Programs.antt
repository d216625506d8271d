-- The listing of several classes.
pub mod Behind
pub mod Parts
pub mod Unmarked
pub mod Read
pub mod Cutting
pub mod Entries
pub mod Schedules
pub mod Alike
pub mod Logs
pub mod Unlined
pub mod LogLines
