-- A DST record: what its three bytes say of a move from -121 to 121 either way, and of its kind. Definitions only.
use Rattle.std.specs.Prelude.{ℕ, suc, ◌+◌, ◌-◌, ◌*◌, ◌/◌, ◌%◌, Bool, cond, List, [], ◌∷◌, eqb, ℤ, pos, negsuc}
use Rattle.dst.specs.declared.records.Kind.{Kind}
use Rattle.dst.specs.declared.records.Kind.TheVariants.{Stitch, Jump}

-- a move lifted by 121, the sum of the weights 1, 3, 9, 27 and 81: its digit in base 3 is 2 where the weight is added, 0 where it is taken off, 1 where neither
abbrev pub lift : ℤ → ℕ
lift (pos n) = 121 + n
lift (negsuc n) = 121 - suc n

abbrev pub bit : Bool → ℕ
bit b = cond b 1 0

-- w is added; w is taken off
unfoldable pub plus : ℕ → ℕ → ℕ
plus w t = bit (eqb (t / w % 3) 2)

unfoldable pub minus : ℕ → ℕ → ℕ
minus w t = bit (eqb (t / w % 3) 0)

-- bits 0 to 7, x+lo, x-lo, x+hi, x-hi, y-hi, y+hi, y-lo, y+lo: of the first byte with 1 and 9, of the second with 3 and 27
unfoldable pub lower : ℕ → ℕ → ℕ → ℕ → ℕ
lower lo hi x y = plus lo x + 2 * minus lo x + 4 * plus hi x + 8 * minus hi x + (16 * minus hi y + 32 * plus hi y + 64 * minus lo y + 128 * plus lo y)

-- bit 7 is a jump's
abbrev pub kind_bits : Kind → ℕ
kind_bits Stitch = 0
kind_bits Jump = 128

-- two fixed bits, x+81, x-81, y-81, y+81, and the kind's
unfoldable pub third : Kind → ℕ → ℕ → ℕ
third k x y = 3 + 4 * plus 81 x + 8 * minus 81 x + (16 * minus 81 y + 32 * plus 81 y) + kind_bits k

unfoldable pub bytes_of : Kind → ℕ → ℕ → List ℕ
bytes_of k x y = lower 1 9 x y ∷ lower 3 27 x y ∷ third k x y ∷ []

unfoldable pub record_of : Kind → ℤ → ℤ → List ℕ
record_of k dx dy = bytes_of k (lift dx) (lift dy)

-- 00 00 F3
abbrev pub end_record : List ℕ
end_record = 0 ∷ 0 ∷ 243 ∷ []
