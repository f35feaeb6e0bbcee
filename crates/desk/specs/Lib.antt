pub mod Reply
pub mod Line
pub mod Tell
pub mod Theorems
