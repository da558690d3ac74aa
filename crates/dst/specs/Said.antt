-- What the bits of a record say, as request [1] lists them: the weights added to a move and taken off it. Definitions only.
use Rattle.std.specs.Prelude.{ℕ, ◌+◌, ◌*◌, ◌/◌, ◌%◌, ◌^◌, ℤ, pos, ◌-ℤ◌}
use Rattle.dst.specs.declared.records.Kind.{Kind}
use Rattle.dst.specs.declared.records.Kind.TheVariants.{Stitch, Jump}

abbrev pub bit_at : ℕ → ℕ → ℕ
bit_at k n = n / 2 ^ k % 2

-- of the three bytes a, b, c
abbrev pub added_x : ℕ → ℕ → ℕ → ℕ
added_x a b c = bit_at 0 a + 3 * bit_at 0 b + 9 * bit_at 2 a + 27 * bit_at 2 b + 81 * bit_at 2 c

abbrev pub taken_x : ℕ → ℕ → ℕ → ℕ
taken_x a b c = bit_at 1 a + 3 * bit_at 1 b + 9 * bit_at 3 a + 27 * bit_at 3 b + 81 * bit_at 3 c

abbrev pub added_y : ℕ → ℕ → ℕ → ℕ
added_y a b c = bit_at 7 a + 3 * bit_at 7 b + 9 * bit_at 5 a + 27 * bit_at 5 b + 81 * bit_at 5 c

abbrev pub taken_y : ℕ → ℕ → ℕ → ℕ
taken_y a b c = bit_at 6 a + 3 * bit_at 6 b + 9 * bit_at 4 a + 27 * bit_at 4 b + 81 * bit_at 4 c

unfoldable pub said_x : ℕ → ℕ → ℕ → ℤ
said_x a b c = pos (added_x a b c) -ℤ pos (taken_x a b c)

unfoldable pub said_y : ℕ → ℕ → ℕ → ℤ
said_y a b c = pos (added_y a b c) -ℤ pos (taken_y a b c)

-- bit 7 of the third byte, by the kind
abbrev pub jumps : Kind → ℕ
jumps Stitch = 0
jumps Jump = 1
