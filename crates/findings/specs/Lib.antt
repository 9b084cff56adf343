pub mod Steps
pub mod FoldLaws
pub mod NoteLaws
pub mod LineLaws
pub mod Found
pub mod FoundLaws
pub mod StartLaws
