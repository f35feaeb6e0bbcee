pub mod Grammar
pub mod Spelled
pub mod Request
pub mod Promises
