pub mod Asking
pub mod Changes
pub mod Carried
pub mod Distances
pub mod EdgeParts
pub mod Edges
pub mod Verified
