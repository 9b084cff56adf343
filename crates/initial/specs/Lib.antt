pub mod InitialLaws
pub mod InitialSets
pub mod UnionLaws
