pub mod StartEdges
