pub mod Reasons
pub mod Theorems
