pub mod Adding
mod Addresses
pub mod Arrows
pub mod Characters
mod Classes
pub mod Cuts
mod Descriptors
pub mod Drafts
mod Elements
mod Finishing
pub mod Formed
pub mod FormedParts
mod Labels
pub mod Lacking
mod Lists
mod Members
pub mod Numbered
mod Numbering
pub mod Numbers
pub mod Opcodes
pub mod Passed
pub mod Printed
mod RawAdding
mod RawEntries
mod RawKinds
mod RawReading
mod RawTries
mod RawUnits
pub mod Readings
pub mod Spelling
pub mod Strings
pub mod Values
