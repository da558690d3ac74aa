-- What a record's kind is, and when a record is turned away. What it says of the move is `dst/specs/Said`. Definitions only.
use Rattle.std.specs.Prelude.{ℕ, suc, ◌+◌, ◌*◌, ◌/◌, ◌%◌, Bool, cond, not, ◌&&◌, ◌||◌, eqb, ltb}
use Rattle.dst.specs.Said.{bit_at}
use Rattle.dst_read.specs.Names.{STITCH, JUMP, STOP}

-- bits k and k + 1 are both set
abbrev pub both_at : ℕ → ℕ → Bool
both_at k n = eqb (bit_at k n + bit_at (suc k) n) 2

-- the signs of a weight are neighbours: four weights in the first byte, and in the second
unfoldable pub clashes : ℕ → Bool
clashes n = both_at 0 n || (both_at 2 n || (both_at 4 n || both_at 6 n))

-- two weights in the third; its two fixed bits are 0 and 1; bit 6 and not bit 7
unfoldable pub bad_third : ℕ → Bool
bad_third c = both_at 2 c || (both_at 4 c || (not (both_at 0 c) || ltb (bit_at 7 c) (bit_at 6 c)))

unfoldable pub bad : ℕ → ℕ → ℕ → Bool
bad a b c = clashes a || (clashes b || bad_third c)

unfoldable pub is_end : ℕ → ℕ → ℕ → Bool
is_end a b c = eqb a 0 && (eqb b 0 && eqb c 243)

-- bit 7 alone is a jump, both a stop
unfoldable pub mark_of : ℕ → ℕ
mark_of c = cond (eqb (bit_at 7 c) 0) STITCH (cond (eqb (bit_at 6 c) 0) JUMP STOP)

-- the weights whose bits are set: 1 and 3 by the bit of weight lo of the bytes a and b, 9, 27 and 81 by that of weight hi of all three
abbrev pub weighed : ℕ → ℕ → ℕ → ℕ → ℕ → ℕ
weighed lo hi a b c = a / lo % 2 + 3 * (b / lo % 2) + 9 * (a / hi % 2) + 27 * (b / hi % 2) + 81 * (c / hi % 2)
