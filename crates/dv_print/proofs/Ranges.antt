-- Try entries and handlers.
pub mod SortedRanges
pub mod Settled
pub mod KeptHandlers
pub mod NamedHandlers
