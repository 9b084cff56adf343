pub mod Words
pub mod PutBefore
