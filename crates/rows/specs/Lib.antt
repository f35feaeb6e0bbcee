pub mod Places
pub mod Row
pub mod Rows
pub mod Theorems
