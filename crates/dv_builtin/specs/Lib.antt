pub mod Natives
pub mod Seeing
pub mod Parts
