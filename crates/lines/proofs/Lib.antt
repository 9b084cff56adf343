pub mod LowestLaws
pub mod LineLoops
pub mod LineLaws
