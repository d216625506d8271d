mod ArgTypes
mod Breaking
mod Calling
mod Constants
mod Leaving
pub mod Making
mod Parts
mod Renewing
mod Saying
mod StepMade
pub mod StepWider
