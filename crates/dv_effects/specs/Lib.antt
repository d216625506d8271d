pub mod Said
pub mod Effects
pub mod Made
pub mod Renewed
