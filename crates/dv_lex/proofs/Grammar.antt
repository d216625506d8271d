-- What a line holds, and what is read of it.
pub mod Found
pub mod Only
pub mod Texts
pub mod Utf8
pub mod Written
