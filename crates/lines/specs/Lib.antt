pub mod Lowest
pub mod Line
pub mod LineLoops
