pub mod Carries
pub mod Moves
