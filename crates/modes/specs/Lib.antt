pub mod Modes
pub mod ModeLoops
