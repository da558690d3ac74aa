-- Pieces laid out in the lent slices: three floats for each piece, and the count of its row. Definitions only.
use Rattle.std.specs.Prelude.{ℕ, ◌+◌, List, [], ◌∷◌, ◌++◌, length, replicate, Float}
use Rattle.rules.specs.declared.Piece.{Piece}

-- a piece's floats
abbrev pub piece_block : Piece → List Float
piece_block p = p.y ∷ p.xa ∷ p.xb ∷ []

-- for each piece the count of its row, the first of the rows being row r
unfoldable pub row_counts : ℕ → List (List Piece) → List ℕ
row_counts r [] = []
row_counts r (row ∷ rows) = replicate (length row) r ++ row_counts (r + 1) rows
