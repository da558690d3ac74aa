-- Sums and products don't depend on the order of their operands: as data, signs of zeros and all.
use Rattle.std.specs.Prelude.{◌≡◌, refl, Bool, cond, ℕ, ◌-◌, ◌*◌, ◌<◌, ltb, eqb, Float}
use Rattle.std.proofs.Common.{sym, ◌∙◌, add_comm, mul_comm, arith, lt-ltb, le-ltb}
use Rattle.std.proofs.Math.Path.{ap}
use Rattle.std.proofs.Math.Bool.{true, false}
use Rattle.std.specs.Bool.{beq}
use Rattle.std.proofs.Math.Decide.{dec_lt}
use Rattle.std.specs.Float.{nan, inf, fin}
use Rattle.std.specs.Float.Ieee.{binary64, up, down, unlike, round, sum, add, mul}
use Rattle.numbers.specs.Num.{◌⊕◌, ◌⊗◌}

apart : (a b c : ℕ) → sum binary64 false a true b c ≡ sum binary64 true b false a c
unfolding sum
apart a b c = go (dec_lt a b) (dec_lt b a)
  where
    go : Dec (a < b) → Dec (b < a) → cond (ltb a b) (round binary64 true (b - a) c) (round binary64 false (a - b) c) ≡ cond (ltb b a) (round binary64 false (a - b) c) (round binary64 (ltb a b) (b - a) c)
    go (yes l) o = rw (lt-ltb a b l, le-ltb b a (omega arith))
    go (no g) (yes l) = rw (le-ltb a b (omega arith), lt-ltb b a l)
    go (no g) (no h) =
        let e : a ≡ b = omega arith in
        rw (le-ltb a b (omega arith), le-ltb b a (omega arith)) (ap (λ (n : ℕ). round binary64 false n c) (omega arith))

sum_comm : (s t : Bool) (a b c : ℕ) → sum binary64 s a t b c ≡ sum binary64 t b s a c
sum_comm false true a b c = apart a b c
sum_comm true false a b c = sym (apart b a c)
sum_comm false false a b c = unfold sum in ap (λ (n : ℕ). round binary64 false n c) (add_comm a b)
sum_comm true true a b c = unfold sum in ap (λ (n : ℕ). round binary64 true n c) (add_comm a b)

same : (s t : Bool) → cond (beq s t) (inf s) nan ≡ cond (beq t s) (inf t) nan
same true true = refl
same true false = refl
same false true = refl
same false false = refl

pub ⊕-comm : (x y : Float) → x ⊕ y ≡ y ⊕ x
unfolding add
⊕-comm nan nan = refl
⊕-comm nan (inf t) = refl
⊕-comm nan (fin t n d) = refl
⊕-comm (inf s) nan = refl
⊕-comm (inf s) (inf t) = same s t
⊕-comm (inf s) (fin t n d) = refl
⊕-comm (fin s m e) nan = refl
⊕-comm (fin s m e) (inf t) = refl
⊕-comm (fin s m e) (fin t n d) = sum_comm s t (m * up e * down d) (n * up d * down e) (down e * down d) ∙ ap (λ (c : ℕ). sum binary64 t (n * up d * down e) s (m * up e * down d) c) (mul_comm (down e) (down d))

unlike_comm : (s t : Bool) → unlike s t ≡ unlike t s
unlike_comm true true = refl
unlike_comm true false = refl
unlike_comm false true = refl
unlike_comm false false = refl

pub ⊗-comm : (x y : Float) → x ⊗ y ≡ y ⊗ x
unfolding mul
⊗-comm nan nan = refl
⊗-comm nan (inf t) = refl
⊗-comm nan (fin t n d) = refl
⊗-comm (inf s) nan = refl
⊗-comm (inf s) (inf t) = ap inf (unlike_comm s t)
⊗-comm (inf s) (fin t n d) = ap (λ (b : Bool). cond (eqb n 0) nan (inf b)) (unlike_comm s t)
⊗-comm (fin s m e) nan = refl
⊗-comm (fin s m e) (inf t) = ap (λ (b : Bool). cond (eqb m 0) nan (inf b)) (unlike_comm s t)
⊗-comm (fin s m e) (fin t n d) =
    ap (λ (b : Bool). round binary64 b (m * up e * (n * up d)) (down e * down d)) (unlike_comm s t)
    ∙ ap (λ (c : ℕ). round binary64 (unlike t s) c (down e * down d)) (mul_comm (m * up e) (n * up d))
    ∙ ap (λ (c : ℕ). round binary64 (unlike t s) (n * up d * (m * up e)) c) (mul_comm (down e) (down d))
