-- From linking and acceptance to the record that the laws of steps take.
pub mod Decoding
pub mod Laws
pub mod LookUps
pub mod Records
pub mod Selected
