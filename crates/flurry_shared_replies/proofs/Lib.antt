pub mod AnswerLaws
pub mod BeginLaws
pub mod FieldLaws
pub mod RefusalLaws
