-- The same of a version 2 job: both fills, of which the first has the outline's counts. Definitions only.
use Rattle.std.specs.Prelude.{ℕ, Result, Ok, Err}
use Rattle.refusal.specs.Refusal.{number}
use Rattle.refusal.specs.declared.Refusal.{Refusal}
use Rattle.jobs.specs.declared.job.Job.{Job}
use Rattle.jobs.specs.declared.job2.Second.{Second}

pub data Parsed2 : Type 0 where
  Done : Job → Second → Parsed2
  Refused : ℕ → Parsed2

abbrev pub said_parsed2 : Result (Job × Second) Refusal → Parsed2
said_parsed2 (Ok p) = Done p.0 p.1
said_parsed2 (Err e) = Refused (number e)
