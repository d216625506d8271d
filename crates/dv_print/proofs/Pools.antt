-- The pools of a draft and of the draft that is made of its body.
pub mod Entries
pub mod PoolKinds
pub mod KeptEntries
