-- Whole steps and whole runs, and threads that are held up.
pub mod HeldUp
pub mod Runs
pub mod Sound
