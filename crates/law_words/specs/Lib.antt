pub mod ErasureLaws
pub mod Laws
pub mod StepLaws
