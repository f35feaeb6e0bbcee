pub mod AreaLaws
pub mod TextLaws
pub mod Examples
