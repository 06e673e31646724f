pub mod EarlierAnswers
pub mod Finding
