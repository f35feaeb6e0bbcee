pub mod Laws
pub mod Words
pub mod Bits
pub mod Lows
pub mod Turns
pub mod Reading
pub mod Own
pub mod Joins
