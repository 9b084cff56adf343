pub mod Set
pub mod Least
pub mod LeastLaws
