pub mod ArgumentLists
pub mod Onward
pub mod FillTargets
pub mod PayloadWidths
pub mod Receivers
pub mod RegisterLists
pub mod Unknown
