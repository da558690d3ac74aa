-- What a reading says: an answer of the table, and a count or a number. Definitions only.
use Rattle.std.specs.Prelude.{ℕ, cond, eqb, Result, Ok, Err}
use Rattle.refusal.specs.Refusal.{DONE, number}
use Rattle.refusal.specs.declared.Refusal.{Refusal}
use Rattle.dst_read.specs.declared.unread.Unread.{Unread}
use Rattle.dst_read.specs.Names.{RECORD}

-- the call: a number of the table, how many points stand at the front of its slices, none after a refusal, and of RECORD the record's number
pub record Read : Type 0 where
  pub answer : ℕ
  pub points : ℕ
  pub number : ℕ

-- where a file stops: the answer, and the number of the record that it was met at: of DONE, how many stand before the end
pub record Verdict : Type 0 where
  pub answer : ℕ
  pub number : ℕ

abbrev pub unread : Refusal → ℕ → Unread
unread e n = record { refusal = e; number = n }

-- what the call tells of it
abbrev pub told : Unread → Unread
told u = cond (eqb (number u.refusal) RECORD) u (unread u.refusal 0)

abbrev pub said_read : Result ℕ Unread → Read
said_read (Ok n) = record { answer = DONE; points = n; number = 0 }
said_read (Err u) = record { answer = number u.refusal; points = 0; number = u.number }

abbrev pub said_verdict : Result ℕ Unread → Verdict
said_verdict (Ok n) = record { answer = DONE; number = n }
said_verdict (Err u) = record { answer = number u.refusal; number = u.number }
