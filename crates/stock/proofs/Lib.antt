pub mod Hands
pub mod Places
pub mod Refused
pub mod Accepted
pub mod Answers
