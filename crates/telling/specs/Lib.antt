pub mod Promise
pub mod Streams
pub mod Theorems
