pub mod Registers
mod Numbers
mod Reading
mod Comparing
mod LocalSteps
pub mod Objects
mod Added
mod Narrowing
mod MemReading
mod Short
mod MemSteps
pub mod Fetching
mod Outcomes
pub mod ThreadSteps
pub mod NativeSteps
mod Arguments
mod CallSteps
mod ActSteps
mod RecordSteps
pub mod ThreadStep
mod Operands
pub mod Fitting
pub mod OpeningState
pub mod Slices
pub mod Erasing
pub mod Frames
pub mod Heaps
pub mod Machines
