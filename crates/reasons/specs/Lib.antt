pub mod Reasons
pub mod Numbered
pub mod Theorems
