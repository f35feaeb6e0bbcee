pub mod Replays
pub mod Broken
pub mod Theorems
