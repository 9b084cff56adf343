pub mod Lists
pub mod Shown
pub mod ListLaws
pub mod LockWordLaws
pub mod ShownLaws
pub mod TableLaws
pub mod BeginLaws
