pub mod Held
pub mod Parts
pub mod Looks
pub mod Moves
pub mod One
