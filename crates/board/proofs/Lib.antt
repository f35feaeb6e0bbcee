pub mod Blank
pub mod Calls
pub mod Begins
pub mod Seating
pub mod Reasons
pub mod Theorems
