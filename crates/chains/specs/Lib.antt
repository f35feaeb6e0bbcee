pub mod Led
pub mod Links
pub mod Chained
