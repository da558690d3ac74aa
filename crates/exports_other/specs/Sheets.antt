-- A sheet's values, as a C entry is given and gives their numbers. Definitions only.
use Rattle.std.specs.Prelude.{ℕ, Float}
use Rattle.refusal.specs.Refusal.{Answer, done, refused}
use Rattle.book.specs.declared.values.Values.{Values}
use Rattle.book.specs.Fetched.{Fetched, Sheet, Refused}

abbrev pub values : Float → Float → Float → Float → ℕ → Values
values spacing len inset pull stagger = record { spacing = spacing; len = len; inset = inset; pull = pull; stagger = stagger }

abbrev pub said_sheet : Fetched → Answer Values
said_sheet (Sheet v) = done v
said_sheet (Refused n) = refused n
