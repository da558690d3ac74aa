-- The laws of `whole_of`: below 2 ^ 53 the whole part is counted, from there on the value is whole.
use Rattle.std.specs.Prelude.{◌≡◌, refl, Bool, true, false, cond, ℕ, zero, suc, ◌+◌, ◌*◌, ◌/◌, ◌%◌, ◌^◌, ◌≤◌, ◌<◌, ℤ, pos, negsuc, T, ltb, eqb, Float}
use Rattle.std.proofs.Common.{sym, ap, subst, ◌∙◌, true≢false, arith, pow_pos, lt→ltb, ltb-true, ltb-false, lt-ltb, le-ltb, eq-eqb, ne_eqb}
use native.Mathlib.Nat.{le_of_eq, le_of_lt, lt_of_le_of_lt, mul-one, zero-mul, mul_right_comm, mul-le-mul_right, mul-lt-mul_of_pos_right, div-lt_iff_lt-mul, div-one, div-add-mod'}
use Rattle.std.proofs.Math.Decide.{dec_lt}
use Rattle.std.specs.Float.{nan, inf, fin, binary64}
use Rattle.std.specs.Float.Ieee.{up, down, round, lt, neg, fits, of_int, to_unsigned}
use Rattle.std.specs.Float.Ieee.Fits.{down_pos}
use Rattle.std.specs.Float.Ieee.Exact.{HasValue}
use Rattle.std.specs.Float.Ieee.Back.{round_whole}
use Rattle.numbers.specs.Order.{negative, magnitude}
use Rattle.numbers.specs.Whole.{part, whole_of}
use Rattle.numbers.specs.Units.{short}
use Rattle.numbers.specs.Rounded.{neg_round, own_round}

abbrev limit : Float
limit = fin false 1 (pos 53)

-- ---- the sign
signed : (s : Bool) (a : ℕ) → cond s (neg (round binary64 false a 1)) (round binary64 false a 1) ≡ round binary64 s a 1
signed true a = neg_round binary64 a 1
signed false a = refl

-- ---- below 2 ^ 53
under : (m : ℕ) (e : ℤ) → lt (fin false m e) limit ≡ true → m * up e / down e < 2 ^ 53
unfolding lt
under m e h =
    let l : m * up e * 1 < 1 * 2 ^ 53 * down e = ltb-true (m * up e * 1) (1 * 2 ^ 53 * down e) h in
    (div-lt_iff_lt-mul (down_pos e)).1 (lt_of_le_of_lt (le_of_eq (sym (mul-one (m * up e)))) l)

-- what the code counts
counted : (m : ℕ) (e : ℤ) → lt (fin false m e) limit ≡ true → to_unsigned 64 (fin false m e) ≡ m * up e / down e
unfolding to_unsigned
counted m e h =
    let l : m * up e / down e < 2 ^ 53 = under m e h in
    omega arith

ltb_scale : (a b p : ℕ) → 0 < p → ltb (a * p) (b * p) ≡ ltb a b
ltb_scale a b p P = go (dec_lt a b)
  where
    go : Dec (a < b) → ltb (a * p) (b * p) ≡ ltb a b
    go (yes l) = lt-ltb (a * p) (b * p) (mul-lt-mul_of_pos_right l P) ∙ sym (lt-ltb a b l)
    go (no g) =
        let l : b ≤ a = omega arith in
        le-ltb (a * p) (b * p) (mul-le-mul_right p l) ∙ sym (le-ltb a b l)

-- the float of the whole part is below the value exactly where there is a rest
fraction : (v : Float) (q m : ℕ) (e : ℤ) → HasValue v false q 1 → lt v (fin false m e) ≡ ltb (q * down e) (m * up e)
unfolding lt
fraction nan q m e h = absurd h
fraction (inf s) q m e h = absurd h
fraction (fin true n d) q m e h = absurd (true≢false h.0)
fraction (fin false n d) q m e h =
    ap (λ (x : ℕ). ltb x (m * up e * down d)) (ap (λ (x : ℕ). x * down e) (sym (mul-one (n * up d)) ∙ h.1) ∙ mul_right_comm q (down d) (down e))
    ∙ ltb_scale (q * down e) (m * up e) (down d) (down_pos d)

rest : (a d : ℕ) → 0 < d → a / d * d < a → eqb (a % d) 0 ≡ false
rest a d p h = ne_eqb (a % d) 0 (λ z. off z)
  where
    off : a % d ≡ 0 → ⊥
    off z = let e : a / d * d + a % d ≡ a = div-add-mod' a d in omega arith

no_rest : (a d : ℕ) → 0 < d → a ≤ a / d * d → eqb (a % d) 0 ≡ true
no_rest a d p h = let e : a / d * d + a % d ≡ a = div-add-mod' a d in eq-eqb (a % d) 0 (omega arith)

-- the test that the code makes
tested : (m : ℕ) (e : ℤ) → lt (fin false m e) limit ≡ true → lt (of_int binary64 (pos (to_unsigned 64 (fin false m e)))) (fin false m e) ≡ ltb (m * up e / down e * down e) (m * up e)
unfolding of_int
tested m e h =
    let q = m * up e / down e in
    ap (λ (n : ℕ). lt (round binary64 false n 1) (fin false m e)) (counted m e h) ∙ fraction (round binary64 false q 1) q m e (round_whole binary64 false q (le_of_lt (under m e h)))

-- ---- what the code returns
abbrev pub out : Float → ℕ → Float
out x n = cond (negative x) (neg (of_int binary64 (pos n))) (of_int binary64 (pos n))

pub whole_toward : (x : Float) → lt (magnitude x) limit ≡ true → out x (to_unsigned 64 (magnitude x)) ≡ whole_of false x
unfolding magnitude negative whole_of of_int
whole_toward nan h = unfold lt in absurd (true≢false (sym h))
whole_toward (inf s) h = unfold lt in absurd (true≢false (sym h))
whole_toward (fin s m e) h = signed s (to_unsigned 64 (fin false m e)) ∙ ap (λ (n : ℕ). round binary64 s n 1) (counted m e h)

pub whole_away : (x : Float) → lt (magnitude x) limit ≡ true → lt (of_int binary64 (pos (to_unsigned 64 (magnitude x)))) (magnitude x) ≡ true → out x (to_unsigned 64 (magnitude x) + 1) ≡ whole_of true x
unfolding magnitude negative whole_of of_int
whole_away nan h k = unfold lt in absurd (true≢false (sym h))
whole_away (inf s) h k = unfold lt in absurd (true≢false (sym h))
whole_away (fin s m e) h k =
    let a = m * up e in
    let d = down e in
    let r : eqb (a % d) 0 ≡ false = rest a d (down_pos e) (ltb-true (a / d * d) a (sym (tested m e h) ∙ k)) in
    signed s (to_unsigned 64 (fin false m e) + 1) ∙ ap (λ (n : ℕ). round binary64 s n 1) (ap (λ (n : ℕ). n + 1) (counted m e h) ∙ sym (ap (λ (b : Bool). a / d + cond b 0 1) r))

pub whole_level : (x : Float) → lt (magnitude x) limit ≡ true → lt (of_int binary64 (pos (to_unsigned 64 (magnitude x)))) (magnitude x) ≡ false → out x (to_unsigned 64 (magnitude x)) ≡ whole_of true x
unfolding magnitude negative whole_of of_int
whole_level nan h k = unfold lt in absurd (true≢false (sym h))
whole_level (inf s) h k = unfold lt in absurd (true≢false (sym h))
whole_level (fin s m e) h k =
    let a = m * up e in
    let d = down e in
    let r : eqb (a % d) 0 ≡ true = no_rest a d (down_pos e) (ltb-false (a / d * d) a (sym (tested m e h) ∙ k)) in
    signed s (to_unsigned 64 (fin false m e)) ∙ ap (λ (n : ℕ). round binary64 s n 1) (counted m e h ∙ sym (ap (λ (b : Bool). a / d + cond b 0 1) r ∙ native.Mathlib.Nat.add-zero (a / d)))

-- ---- from 2 ^ 53 on
no_part : (away : Bool) (a : ℕ) → part away a 1 ≡ a
no_part false a = div-one a
no_part true a = ap (λ (b : Bool). a / 1 + cond b 0 1) (eq-eqb (a % 1) 0 (omega arith)) ∙ native.Mathlib.Nat.add-zero (a / 1) ∙ div-one a

pub whole_large : (away : Bool) (x : Float) → T (fits binary64 x) → lt (magnitude x) limit ≡ false → x ≡ whole_of away x
unfolding lt magnitude whole_of
whole_large away nan f h = refl
whole_large away (inf s) f h = refl
whole_large away (fin s zero e) f h = absurd (true≢false (sym (lt-ltb (0 * up e * 1) (1 * 2 ^ 53 * down e) (omega (arith, zero-mul (up e), down_pos e))) ∙ h))
whole_large away (fin s (suc m) (pos k)) f h = own_round s (suc m) (pos k) f ∙ ap (λ (n : ℕ). round binary64 s n 1) (sym (no_part away (suc m * 2 ^ k)))
whole_large away (fin s (suc m) (negsuc k)) f h =
    absurd (true≢false (sym (lt-ltb (suc m * 1 * 1) (1 * 2 ^ 53 * 2 ^ suc k) (omega (arith, short s (suc m) (negsuc k) f, pow_pos (suc k)))) ∙ h))

-- ---- nothing is rounded: the value of `whole_of` is the whole number
at_most : (away : Bool) (a d : ℕ) → 0 < d → a < 2 ^ 53 * d → part away a d ≤ 2 ^ 53
at_most false a d p h = le_of_lt ((div-lt_iff_lt-mul p).1 h)
at_most true a d p h =
    let l : a / d < 2 ^ 53 = (div-lt_iff_lt-mul p).1 h in
    step (eqb (a % d) 0) (a / d) l
  where
    step : (b : Bool) (q : ℕ) → q < 2 ^ 53 → q + cond b 0 1 ≤ 2 ^ 53
    step true q l = omega arith
    step false q l = omega arith

pub whole_exact : (away s : Bool) (m : ℕ) (e : ℤ) → T (fits binary64 (fin s m e)) → HasValue (whole_of away (fin s m e)) s (part away (m * up e) (down e)) 1
unfolding whole_of
whole_exact away s zero e f = round_whole binary64 s (part away (0 * up e) (down e)) (at_most away (0 * up e) (down e) (down_pos e) (omega (arith, zero-mul (up e), down_pos e)))
whole_exact away s (suc m) (pos k) f =
    let n = suc m * 2 ^ k in
    subst (λ (n : ℕ). HasValue (round binary64 s n 1) s n 1) (sym (no_part away n)) (subst (λ (v : Float). HasValue v s n 1) (own_round s (suc m) (pos k) f) (refl, refl))
whole_exact away s (suc m) (negsuc k) f =
    round_whole binary64 s (part away (suc m * 1) (2 ^ suc k)) (at_most away (suc m * 1) (2 ^ suc k) (pow_pos (suc k)) (omega (arith, short s (suc m) (negsuc k) f, pow_pos (suc k))))

-- ---- what the calls ask
pub in_range : (a x : Float) → a ≡ magnitude x → lt a limit ≡ true → T (lt (fin true 1 (pos 0)) a) × T (lt a (fin false 1 (pos 64)))
unfolding lt magnitude
in_range a x e h = subst (λ (v : Float). T (lt (fin true 1 (pos 0)) v) × T (lt v (fin false 1 (pos 64)))) (sym e) (go x (ap (λ (v : Float). lt v limit) (sym e) ∙ h))
  where
    go : (x : Float) → lt (magnitude x) limit ≡ true → T (lt (fin true 1 (pos 0)) (magnitude x)) × T (lt (magnitude x) (fin false 1 (pos 64)))
    go nan h = absurd (true≢false (sym h))
    go (inf s) h = absurd (true≢false (sym h))
    go (fin s m e) h =
        let l : m * up e * 1 < 1 * 2 ^ 53 * down e = ltb-true (m * up e * 1) (1 * 2 ^ 53 * down e) h in
        (lt→ltb 0 (1 * 1 * down e + m * up e * 1) (omega (arith, down_pos e)), lt→ltb (m * up e * 1) (1 * 2 ^ 64 * down e) (omega arith))

pub count_lt : (a x : Float) → a ≡ magnitude x → lt a limit ≡ true → to_unsigned 64 a < 2 ^ 53
unfolding magnitude
count_lt a x e h = subst (λ (v : Float). to_unsigned 64 v < 2 ^ 53) (sym e) (go x (ap (λ (v : Float). lt v limit) (sym e) ∙ h))
  where
    go : (x : Float) → lt (magnitude x) limit ≡ true → to_unsigned 64 (magnitude x) < 2 ^ 53
    go nan h = unfold lt in absurd (true≢false (sym h))
    go (inf s) h = unfold lt in absurd (true≢false (sym h))
    go (fin s m e) h = lt_of_le_of_lt (le_of_eq (counted m e h)) (under m e h)

-- ---- what each return has
module _ (x a t : Float) (n : ℕ) (s : Bool) (p : a ≡ magnitude x) (h : lt a limit ≡ true) (q : n ≡ to_unsigned 64 a) (o : t ≡ of_int binary64 (pos n)) (g : s ≡ negative x) where
  small : lt (magnitude x) limit ≡ true
  small = ap (λ (v : Float). lt v limit) (sym p) ∙ h

  count : n ≡ to_unsigned 64 (magnitude x)
  count = q ∙ ap (to_unsigned 64) p

  test : lt t a ≡ lt (of_int binary64 (pos (to_unsigned 64 (magnitude x)))) (magnitude x)
  test = ap (λ (v : Float). lt v a) (o ∙ ap (λ (k : ℕ). of_int binary64 (pos k)) count) ∙ ap (λ (v : Float). lt (of_int binary64 (pos (to_unsigned 64 (magnitude x)))) v) p

  -- the sign, and the count k
  made : (k : ℕ) (v r : Float) → v ≡ of_int binary64 (pos k) → r ≡ cond s (neg v) v → r ≡ out x k
  made k v r e f = f ∙ ap (λ (v : Float). cond s (neg v) v) e ∙ ap (λ (b : Bool). cond b (neg (of_int binary64 (pos k))) (of_int binary64 (pos k))) g

  pub returns_toward : (r : Float) → r ≡ cond s (neg t) t → r ≡ whole_of false x
  returns_toward r f = made n t r o f ∙ ap (out x) count ∙ whole_toward x small

  pub returns_level : (r : Float) → r ≡ cond s (neg t) t → lt t a ≡ false → r ≡ whole_of true x
  returns_level r f k = made n t r o f ∙ ap (out x) count ∙ whole_level x small (sym test ∙ k)

  pub returns_away : (v r : Float) → v ≡ of_int binary64 (pos (n + 1)) → r ≡ cond s (neg v) v → lt t a ≡ true → r ≡ whole_of true x
  returns_away v r e f k = made (n + 1) v r e f ∙ ap (λ (k : ℕ). out x (k + 1)) count ∙ whole_away x small (sym test ∙ k)
