-- The lemmas, by topic; what belongs to one function of src stands in a folder of its own beside this.
pub mod Common
pub mod Bridge
pub mod Registers
pub mod Readers
pub mod Local
pub mod Growth
pub mod Heap
pub mod HeapSteps
pub mod Calls
pub mod Returns
pub mod Natives
pub mod Monitors
pub mod Records
pub mod Exceptions
pub mod Opening
pub mod Steps
