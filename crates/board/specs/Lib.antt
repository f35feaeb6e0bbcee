pub mod Area
pub mod Reasons
pub mod Theorems
