pub mod Listed
pub mod Refusals
pub mod Sheets
pub mod Theorems
