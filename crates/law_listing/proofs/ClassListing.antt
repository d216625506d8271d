-- The listing of a class.
pub mod Kept
pub mod Parts
pub mod Bodies
pub mod Told
pub mod Methods
pub mod Listed
