pub mod Turns
pub mod Texts
pub mod Theorems
pub mod Examples
