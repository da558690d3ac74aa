-- Two points are as far apart one way as the other: as data, whatever the numbers are. Assumes nothing.
use Rattle.std.specs.Prelude.{ℕ, ◌+◌, ◌-◌, ◌*◌, ◌<◌, ◌≡◌, refl, Bool, true, false, not, cond, ◌⊎◌, ltb, Float}
use Rattle.std.proofs.Math.Decide.{dec_lt}
use Rattle.std.proofs.Common.{arith, sym, ap, ◌∙◌, inl, inr, lt-ltb, le-ltb}
use Rattle.std.specs.Float.{nan, inf, fin, binary64}
use Rattle.std.specs.Float.Ieee.{up, down, round, sum, neg, add, sub, mul}
use Rattle.numbers.specs.Num.{◌⊕◌, ◌⊖◌, ◌⊗◌}
use Rattle.numbers.specs.Rounded.{neg_round}
use Rattle.numbers.specs.Laws.{⊕-comm, neg_neg}
use Rattle.geom.specs.declared.point.P.{P}
use Rattle.geom.specs.Point.{minus, len}

-- y is x, or x with its sign turned
abbrev Turned : Float → Float → Type 0
Turned x y = (x ≡ y) ⊎ (x ≡ neg y)

turned_back : {x y : Float} → Turned x y → Turned y x
turned_back (inl e) = inl (sym e)
turned_back {x} {y} (inr e) = inr (sym (neg_neg y) ∙ ap neg (sym e))

round_turned : (n c : ℕ) → Turned (round binary64 true n c) (round binary64 false n c)
round_turned n c = inr (sym (neg_round binary64 n c))

unlike_turned : (a b c : ℕ) → Turned (sum binary64 false a true b c) (sum binary64 true a false b c)
unfolding sum
unlike_turned a b c = go (dec_lt a b) (dec_lt b a)
  where
    go : Dec (a < b) → Dec (b < a) → Turned (cond (ltb a b) (round binary64 true (b - a) c) (round binary64 false (a - b) c)) (cond (ltb a b) (round binary64 false (b - a) c) (round binary64 (ltb b a) (a - b) c))
    go (yes l) o = rw (lt-ltb a b l) (round_turned (b - a) c)
    go (no g) (yes l) = rw (le-ltb a b (omega arith), lt-ltb b a l) (turned_back (round_turned (a - b) c))
    go (no g) (no h) = rw (le-ltb a b (omega arith), le-ltb b a (omega arith)) (inl refl)

sum_turned : (s t : Bool) (a b c : ℕ) → Turned (sum binary64 s a (not t) b c) (sum binary64 (not s) a t b c)
sum_turned false false a b c = unlike_turned a b c
sum_turned true true a b c = turned_back (unlike_turned a b c)
sum_turned false true a b c = unfold sum in turned_back (round_turned (a + b) c)
sum_turned true false a b c = unfold sum in round_turned (a + b) c

added : (x y : Float) → Turned (x ⊕ neg y) (neg x ⊕ y)
unfolding add neg
added nan y = inl refl
added (inf s) nan = inl refl
added (inf true) (inf true) = inl refl
added (inf true) (inf false) = inr refl
added (inf false) (inf true) = inr refl
added (inf false) (inf false) = inl refl
added (inf true) (fin t n d) = inr refl
added (inf false) (fin t n d) = inr refl
added (fin s m e) nan = inl refl
added (fin s m e) (inf true) = inr refl
added (fin s m e) (inf false) = inr refl
added (fin s m e) (fin t n d) = sum_turned s t (m * up e * down d) (n * up d * down e) (down e * down d)

subtracted : (x y : Float) → Turned (x ⊖ y) (y ⊖ x)
unfolding sub
subtracted x y = rw (⊕-comm y (neg x)) (added x y)

square_neg : (x : Float) → neg x ⊗ neg x ≡ x ⊗ x
unfolding mul neg
square_neg nan = refl
square_neg (inf true) = refl
square_neg (inf false) = refl
square_neg (fin true m e) = refl
square_neg (fin false m e) = refl

squared : {x y : Float} → Turned x y → x ⊗ x ≡ y ⊗ y
squared (inl e) = ap (λ (z : Float). z ⊗ z) e
squared {x} {y} (inr e) = ap (λ (z : Float). z ⊗ z) e ∙ square_neg y

pub len_turned : (p q : P) → len (minus p q) ≡ len (minus q p)
unfolding len
len_turned p q = rw (squared (subtracted p.x q.x), squared (subtracted p.y q.y))
