mod Above
mod Appended
mod Cases
mod Lefts
mod Ranges
mod Unresolved
pub mod ItemsHere
pub mod TilesSoFar
pub mod PlaceOrder
pub mod PlaceTests
pub mod Rising
pub mod OrderedPlaces
pub mod StartLemmas
pub mod RisingKeys
