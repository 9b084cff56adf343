pub mod State
pub mod Step
pub mod Words
pub mod Engine
pub mod Notebook
pub mod Stretch
