pub mod Arguments
pub mod Elements
pub mod Fetching
pub mod Made
pub mod Returns
pub mod Wanted
