-- What a verdict and a tile are as numbers.
pub mod Answers
pub mod AnswersLaws
