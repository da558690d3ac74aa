-- What the functions inside ask of a job: its rings are well framed. Definitions only.
use Rattle.std.specs.Prelude.{ℕ, ◌≤◌, ◌≡◌, List, length, drop}
use Rattle.std.specs.Prelude.{Some}
use Rattle.jobs.specs.Job.{head, counted}

-- the rings behind the head are so many, and end the job
pub record Framed (rings : ℕ) (s : List ℕ) : Type 0 where
  pub corners : ℕ
  pub long : head ≤ length s
  pub is : counted rings 0 (drop head s) ≡ Some corners
