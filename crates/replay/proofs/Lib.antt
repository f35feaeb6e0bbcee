pub mod Handing
pub mod Theorems
