pub mod Laid
pub mod ListLaws
