pub mod SlotLaws
pub mod PlaceLaws
pub mod WaitLaws
