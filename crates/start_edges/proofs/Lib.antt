pub mod StartEdges
pub mod StartLaws
pub mod StartRoom
