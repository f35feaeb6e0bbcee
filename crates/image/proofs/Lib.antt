pub mod Areas
pub mod Codes
pub mod Structs
pub mod Theorems
pub mod Types
