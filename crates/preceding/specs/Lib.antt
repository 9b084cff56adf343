pub mod MarkedLaws
pub mod AnswerLaws
pub mod LeaveLaws
