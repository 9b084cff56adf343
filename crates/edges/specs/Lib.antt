pub mod Equations
pub mod EdgeLaws
pub mod RoomLaws
pub mod LineLaws
pub mod RoutineLaws
pub mod Grown
