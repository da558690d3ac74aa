-- What the contracts of `dst` cite (Records, Thread, Answers; Lifted), and what is proved of it.
pub mod Records
pub mod Thread
pub mod Answers
pub mod Lifted
pub mod Said
pub mod RoundingLaws
pub mod LiftedLaws
pub mod ThreadLaws
pub mod RecordLaws
pub mod Examples
