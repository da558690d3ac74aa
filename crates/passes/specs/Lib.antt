-- What the contracts of `passes` cite (Threads), and what is proved of it (Apart: the length of a difference either way).
pub mod Threads
pub mod ThreadsLaws
pub mod TopLaws
pub mod Apart
