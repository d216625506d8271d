-- The laws of types, states, transfer and demand.
pub mod Antitone
pub mod Arrays
pub mod Changed
pub mod Common
pub mod Demands
pub mod Equal
pub mod Facts
pub mod Interfaces
pub mod Joins
pub mod Laws
pub mod Demanded
pub mod Regs
pub mod Satisfied
pub mod States
pub mod Transfer
pub mod Types
pub mod Walks
