pub mod ViewEdges
pub mod ViewEdgeLaws
pub mod Grown
