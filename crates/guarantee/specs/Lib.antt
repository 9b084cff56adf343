pub mod Invariant
pub mod Demand
pub mod Reading
