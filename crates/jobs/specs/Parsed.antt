-- What the reading of a job says: a job, or the number of a refusal. Definitions only.
use Rattle.std.specs.Prelude.{ℕ, Result, Ok, Err}
use Rattle.refusal.specs.Refusal.{number}
use Rattle.refusal.specs.declared.Refusal.{Refusal}
use Rattle.jobs.specs.declared.job.Job.{Job}

pub data Parsed : Type 0 where
  Done : Job → Parsed
  Refused : ℕ → Parsed

abbrev pub said_parsed : Result Job Refusal → Parsed
said_parsed (Ok j) = Done j
said_parsed (Err e) = Refused (number e)
