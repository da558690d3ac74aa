-- What a caller's place holds after an answer: the value, or what stood there; and how a rule and a truth go through a C entry. Definitions only.
use Rattle.std.specs.Prelude.{ℕ, Bool, true, false, List, [], ◌∷◌, eqb, Float}
use Rattle.refusal.specs.Refusal.{Answer}
use Rattle.geom.specs.declared.point.P.{P}
use Rattle.outlines.specs.declared.rule.FillRule.{FillRule}
use Rattle.outlines.specs.declared.rule.FillRule.TheVariants.{NonZero, EvenOdd}

module _ {A B : Type 0} where
  -- f of the value, or what stood there
  abbrev pub first_or : (A → B) → B → List A → B
  first_or f old [] = old
  first_or f old (v ∷ l) = f v

abbrev pub stored : {A : Type 0} → Answer A → A → A
stored a old = first_or (λ v. v) old a.values

-- a point's coordinates go to two places
abbrev pub stored_x : Answer P → Float → Float
stored_x a old = first_or (λ p. p.x) old a.values

abbrev pub stored_y : Answer P → Float → Float
stored_y a old = first_or (λ p. p.y) old a.values

-- a truth is 1 or 0
abbrev pub bit : Bool → ℕ
bit true = 1
bit false = 0

abbrev pub stored_truth : Answer Bool → ℕ → ℕ
stored_truth a old = first_or bit old a.values

-- 0 is NonZero, any other number EvenOdd
abbrev pub pick_rule : Bool → FillRule
pick_rule true = NonZero
pick_rule false = EvenOdd

abbrev pub rule_of : ℕ → FillRule
rule_of n = pick_rule (eqb n 0)
