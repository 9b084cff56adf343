pub mod Lent
pub mod SetsLaws
