pub mod WholeAnswers
pub mod JudgeAnswers
