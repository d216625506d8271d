-- The example images, as linked images.
pub mod Linking
pub mod Numbers
pub mod Verifying
pub mod Typing
pub mod Statics
pub mod Objects
pub mod Selecting
pub mod Exceptions
pub mod Classes
pub mod Threads
pub mod Limits
pub mod Stuck
pub mod Seeded
pub mod All
