pub mod PassLaws
pub mod CountLaws
pub mod OrderLaws
pub mod SolveLaws
