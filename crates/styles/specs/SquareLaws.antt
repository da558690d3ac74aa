-- What a squared length tells of its root. Assumes nothing.
use Rattle.std.specs.Prelude.{◌^◌, ◌≡◌, refl, true, false, T, Float}
use Rattle.std.proofs.Common.{sym, ◌∙◌, inl}
use Rattle.std.proofs.Math.Logic.{inr}
use Rattle.std.specs.Float.{binary64}
use Rattle.std.specs.Float.Ieee.{round, fits, lt, le, is_nan}
use Rattle.numbers.specs.Num.{◌⊗◌, literal, zero64}
use Rattle.numbers.specs.Root.{isqrt, near_root, root_units, root}
use Rattle.numbers.specs.Laws as laws
use Rattle.numbers.proofs.Laws as laws_proved
use Rattle.numbers.specs.Laws.{holds}
use Rattle.seqs.specs.Tests.{refute, is_true}
use Rattle.geom.specs.declared.point.P.{P}
use Rattle.geom.specs.Point.{minus, dot, len}
use Rattle.satinrules.specs.Column.{bends}

-- ---- 6, its square, and the float after that
root_six : root (literal 36 1) ≡ literal 6 1
unfolding literal round root root_units near_root isqrt
root_six = refl

abbrev pub past : Float
past = literal 3600000000000001 (10 ^ 14)

past_six : T (lt (literal 6 1) (root past))
unfolding literal round root root_units near_root isqrt lt
past_six = tt

not_over_six : (d : Float) → T (fits binary64 d) → T (le d (literal 36 1)) → lt (literal 6 1) (root d) ≡ false
unfolding literal round lt is_nan
not_over_six d f h = elim (laws.le_or_lt zero64 d tt (laws.le_left d (literal 36 1) h)) [
  | inl z ↦ refute _ (λ e. absurd (laws.le_lt_clash (root d) (root (literal 36 1)) (laws_proved.root_mono d (literal 36 1) f (unfold fits in tt) z h) (rw root_six (holds e))))
  | inr z ↦ rw (laws.root_below d z)
]

over_six : (d : Float) → T (fits binary64 d) → T (le past d) → lt (literal 6 1) (root d) ≡ true
unfolding literal round
over_six d f h = is_true _ (laws.lt_le_trans (literal 6 1) (root past) (root d) past_six (laws_proved.root_mono past d (unfold fits in tt) f (unfold le in tt) h))

square_fits : (v : P) (d : Float) → d ≡ dot v v → T (fits binary64 d)
square_fits v d g = rw g (laws.add-fits binary64 (v.x ⊗ v.x) (v.y ⊗ v.y))

-- d is the squared length from p to q
module _ (p q v : P) (d : Float) (e : v ≡ minus q p) (g : d ≡ dot v v) where
  pub bends_square : lt (literal 6 1) (root d) ≡ bends p q
  unfolding bends len
  bends_square = rw (g, e)

  pub straight : lt d (literal 36 1) ≡ true → false ≡ bends p q
  straight h = sym (not_over_six d (square_fits v d g) (laws.lt_le d (literal 36 1) (holds h))) ∙ bends_square

  pub bent : le past d ≡ true → true ≡ bends p q
  bent h = sym (over_six d (square_fits v d g) (holds h)) ∙ bends_square
