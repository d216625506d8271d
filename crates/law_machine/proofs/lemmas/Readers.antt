-- Reads find what the verifier demanded.
pub mod Arrays
pub mod Plain
pub mod Words
