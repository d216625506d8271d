pub mod InsnEq
pub mod Spelled
pub mod Spelling35c
pub mod Calls35c
pub mod SpellingFormats
pub mod SpellingLaws
mod SpellingRows
pub mod Signed
pub mod DecodingFormats
pub mod DecodingLaws
pub mod PayloadNumbers
pub mod PayloadBytes
pub mod PayloadLaws
pub mod TilingLaws
pub mod Keys
mod Places
