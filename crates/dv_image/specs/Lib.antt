pub mod Common
pub mod Selecting
pub mod Ascents
