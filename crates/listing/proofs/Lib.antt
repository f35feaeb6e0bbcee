pub mod Listed
pub mod Sheets
pub mod Theorems
