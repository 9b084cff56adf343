pub mod Step
pub mod Operation
