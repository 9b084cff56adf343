pub mod Run
pub mod OutcomeLaws
