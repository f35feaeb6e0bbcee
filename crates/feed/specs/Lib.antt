pub mod Cut
pub mod Buffer
pub mod Takes
pub mod Promises
pub mod Theorems
