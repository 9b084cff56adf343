pub mod Pass
pub mod PassLaws
pub mod Way
