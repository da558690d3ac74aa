-- Document 01's table of answers, what an answer says, and what a call that sews or writes says and leaves.
pub mod Refusal
pub mod Sewn
pub mod AnswerLaws
