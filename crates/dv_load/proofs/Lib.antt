pub mod BootTexts
pub mod LinkedTexts
pub mod MainMethods
pub mod ReadLines
pub mod ReadTexts
