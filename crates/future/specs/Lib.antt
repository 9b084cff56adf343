pub mod StageLaws
pub mod SpreadLaws
pub mod FutureStages
pub mod AnswerLaws
