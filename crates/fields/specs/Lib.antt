pub mod Field
pub mod FieldLoops
pub mod QuickFields
pub mod FieldLaws
