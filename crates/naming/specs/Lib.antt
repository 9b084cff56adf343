pub mod GatherLaws
pub mod WalkLaws
