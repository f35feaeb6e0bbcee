pub mod PhraseLaws
pub mod Length
pub mod PageLaws
pub mod Examples
pub mod PageExamples
