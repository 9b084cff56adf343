pub mod Packed
pub mod PackedLaws
pub mod Demands
