pub mod Arriving
pub mod Beside
pub mod Numbered
pub mod Rising
pub mod Spreading
pub mod Turning
