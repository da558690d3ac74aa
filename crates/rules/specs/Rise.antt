-- Rows whose pieces go to the right: neither end falls back from a piece to a later one. Definitions only.
use Rattle.std.specs.Prelude.{List, T}
use Rattle.std.specs.Float.Ieee.{le}
use Rattle.seqs.specs.Lists.{Sorted}
use Rattle.rules.specs.declared.Piece.{Piece}

-- from p on to q
abbrev pub Onward : Piece → Piece → Type 0
Onward p q = T (le p.xa q.xa) × T (le p.xb q.xb)

abbrev pub Rise : List Piece → Type 0
Rise row = Sorted Onward row
