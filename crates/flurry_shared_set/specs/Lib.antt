pub mod ElementAnswers
