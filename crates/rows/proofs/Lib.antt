pub mod Each
pub mod Places
pub mod Rows
pub mod Theorems
