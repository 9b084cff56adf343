pub mod Print
pub mod PrintLoops
