mod Adding
mod Assembled
mod Between
mod Cutting
mod Ends
mod Entries
pub mod Flags
mod Going
mod Leaving
mod Parts
mod Telling
mod Values
mod Whole
mod Wholes
