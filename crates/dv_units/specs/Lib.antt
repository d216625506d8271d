pub mod Tables
pub mod Reading
pub mod Laws
pub mod Payloads
