pub mod WordLaws
pub mod NumberLaws
pub mod HexLaws
pub mod LimitLaws
pub mod CallLaws
pub mod Examples
