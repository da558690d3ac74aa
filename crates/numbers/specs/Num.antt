-- The operations of f64 under short names, each rounded once; whole numbers as floats. Definitions only.
use Rattle.std.specs.Prelude.{ℕ, false, ℤ, pos, negsuc, Float}
use Rattle.std.specs.Float.{fin, binary64}
use Rattle.std.specs.Float.Ieee.{round, add, sub, mul, div, of_int}

infixl 65 ◌⊕◌
infixl 65 ◌⊖◌
infixl 70 ◌⊗◌
infixl 70 ◌⊘◌
abbrev pub ◌⊕◌ : Float → Float → Float
x ⊕ y = add binary64 x y

abbrev pub ◌⊖◌ : Float → Float → Float
x ⊖ y = sub binary64 x y

abbrev pub ◌⊗◌ : Float → Float → Float
x ⊗ y = mul binary64 x y

abbrev pub ◌⊘◌ : Float → Float → Float
x ⊘ y = div binary64 x y

-- the f64 nearest to a whole number, and to a / b, as a decimal literal is read
abbrev pub real : ℤ → Float
real k = of_int binary64 k

unfoldable pub literal : ℕ → ℕ → Float
unfolding round
literal a b = round binary64 false a b

abbrev pub zero64 : Float
zero64 = fin false 0 (pos 0)

abbrev pub half : Float
half = fin false 1 (negsuc 0)
