-- Each native method is fine.
pub mod Each
pub mod Shared
