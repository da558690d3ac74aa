-- What the contracts of `geometry` cite (Answers, LineAnswers).
pub mod Answers
pub mod LineAnswers
