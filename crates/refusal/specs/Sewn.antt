-- What a call that sews or writes says, and what its output holds afterwards, by the number of its refusal. Definitions only.
use Rattle.std.specs.Prelude.{ℕ, cond, List, ◌++◌, eqb, length, drop, Result, Ok, Err}
use Rattle.refusal.specs.Refusal.{DONE, number}
use Rattle.refusal.specs.declared.Refusal.{Refusal}

-- what a call that sews says: a number of the table, and how many points stand at the front of its output, none after a refusal
pub record Sewn : Type 0 where
  pub answer : ℕ
  pub points : ℕ

-- the same of a call that writes bytes
pub record Written : Type 0 where
  pub answer : ℕ
  pub bytes : ℕ

abbrev pub said_sewn : Result ℕ Refusal → Sewn
said_sewn (Ok n) = record { answer = DONE; points = n }
said_sewn (Err e) = record { answer = number e; points = 0 }

abbrev pub said_written : Result ℕ Refusal → Written
said_written (Ok n) = record { answer = DONE; bytes = n }
said_written (Err e) = record { answer = number e; bytes = 0 }

-- how many points were sewn: a refusal sews none
abbrev pub sewn : ℕ → ℕ → Sewn
sewn n points = cond (eqb n DONE) (record { answer = DONE; points = points }) (record { answer = n; points = 0 })

-- how many bytes were written: a refusal writes none
abbrev pub written : ℕ → ℕ → Written
written n bytes = cond (eqb n DONE) (record { answer = DONE; bytes = bytes }) (record { answer = n; bytes = 0 })

-- the answer at the front, and the rest as it was; after a refusal all as it was
abbrev pub output : {A : Type 0} → ℕ → List A → List A → List A
output n answer out = cond (eqb n DONE) (answer ++ drop (length answer) out) out
