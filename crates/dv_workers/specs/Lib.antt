pub mod Chores
pub mod Desks
pub mod Entries
pub mod Rule
pub mod Seats
