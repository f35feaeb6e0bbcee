pub mod Moves
pub mod History
pub mod Theorems
pub mod Useless
pub mod Reasons
pub mod Names
pub mod Mailboxes
pub mod Waiters
