-- What a fetch says: a sheet's values, or the number of a refusal. Definitions only.
use Rattle.std.specs.Prelude.{ℕ, Result, Ok, Err}
use Rattle.refusal.specs.Refusal.{number}
use Rattle.refusal.specs.declared.Refusal.{Refusal}
use Rattle.book.specs.declared.values.Values.{Values}

pub data Fetched : Type 0 where
  Sheet : Values → Fetched
  Refused : ℕ → Fetched

abbrev pub said_fetched : Result Values Refusal → Fetched
said_fetched (Ok v) = Sheet v
said_fetched (Err e) = Refused (number e)
