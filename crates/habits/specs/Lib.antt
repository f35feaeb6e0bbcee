pub mod Tables
pub mod Size
