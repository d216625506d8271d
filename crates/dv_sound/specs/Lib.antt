pub mod Moves
pub mod Runs
pub mod Replays
pub mod Laws
pub mod Lending
pub mod Words
pub mod Trying
