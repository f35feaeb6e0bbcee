pub mod Ascii
pub mod Answer
pub mod Written
pub mod Promises
