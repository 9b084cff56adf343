pub mod Lists
pub mod SumLaws
pub mod LockLaws
pub mod Laws
pub mod StretchLaws
pub mod EngineLaws
pub mod FrameLaws
