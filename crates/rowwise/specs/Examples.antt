-- The next crossing, by computing: a row at y = 5 over four upright edges, two of which share their x. The crossing at 10 is one, and its directions are added.
use Rattle.std.specs.Prelude.{◌≡◌, refl, Bool, true, false, List, [], ◌∷◌, ℕ, pos, negsuc, Float}
use Rattle.std.specs.Float.{inf}
use Rattle.std.specs.Float.Ieee.{add, sub, mul, lt, le, of_int, round, size, odd, div}
use Rattle.numbers.specs.Num.{literal}
use Rattle.numbers.specs.Order.{before}
use Rattle.seqs.specs.Lists.{fold}
use Rattle.rules.specs.declared.Edge.{Edge}
use Rattle.rules.specs.Fill.{dir}
use Rattle.sweep.specs.declared.piece.Crossing.{Crossing}
use Rattle.rowwise.specs.Nearest.{none_yet, meet, behind}

abbrev n : ℕ → Float
n a = unfold literal in literal a 1

-- an upright edge from y = 0 to y = 10
abbrev upright : ℕ → Bool → Edge
upright x falls = record { y0 = n 0; y1 = n 10; x0 = n x; dxdy = n 0; falls = falls }

-- two squares that touch at 10, the right one drawn first
abbrev squares : List Edge
squares = upright 20 true ∷ upright 10 false ∷ upright 10 true ∷ upright 0 false ∷ []

-- the next crossing behind `after`, `at` sides passed
abbrev next : Float → ℕ → Crossing
next after at = fold (meet (record { y = n 5; after = after; at = at })) (none_yet at) squares

pub one_after_the_other :
    (next (inf true) 0 ≡ record { x = n 0; dir = negsuc 0; next = 1 })
    × (next (n 0) 1 ≡ record { x = n 10; dir = pos 0; next = 3 })
    × (next (n 10) 3 ≡ record { x = n 20; dir = pos 1; next = 4 })
    × (next (n 20) 4 ≡ none_yet 4)
unfolding add sub mul div lt le of_int round size odd literal before dir
one_after_the_other = (refl, refl, refl, refl)

-- they are the row's crossings behind the first of all numbers
pub all_behind : behind (n 5) squares (inf true) ≡ (n 0, negsuc 0) ∷ (n 10, pos 0) ∷ (n 20, pos 1) ∷ []
unfolding add sub mul div lt le of_int round size odd literal before dir behind
all_behind = refl
