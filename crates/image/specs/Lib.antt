pub mod Bytes
pub mod Image
pub mod Theorems
