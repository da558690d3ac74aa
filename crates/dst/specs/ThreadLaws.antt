-- What is proved of the needle's way: its parts are the fewest, each is at most 121 either way, and they end where it goes. Assumes nothing.
use Prim.Native.Nat.{ℕ, zero, suc, ◌+◌, ◌-◌, ◌*◌, ◌/◌, ◌≤◌, ◌<◌}
use Rattle.std.proofs.Common.{mul-zero, zero-mul, add-mul, one-mul, mul-le-mul_right, sym, ◌∙◌, inl, inr, append_assoc, length-append}
use Rattle.std.proofs.Math.Nat.{zero-div, mul-div_right, mul-add-div_right}
use native.Mathlib.Omega.{arith}
use Rattle.std.specs.Prelude.{◌≡◌, ◌⊎◌, List, [], ◌∷◌, ◌++◌, length, ℤ, pos, negsuc, nat_abs, ◌+ℤ◌, ◌-ℤ◌}
use Rattle.std.proofs.Math.Path.{refl, ap}
use Rattle.std.specs.Float.Ieee.Nearest.{div_mono}
use Rattle.geom.specs.declared.point.P.{P}
use Rattle.seqs.specs.Ints.{above, below, one_side, same_int, add_parts, sub_parts_is, abs_parts, neg_above, neg_below}
use Rattle.dst.specs.declared.records.Kind.{Kind}
use Rattle.dst.specs.Records.{bytes_of, record_of, end_record}
use Rattle.dst.specs.Thread.{Whole, Mark, origin, rounded_point, move, parts, quotient, cut_at, cut, kind_at, cuts_from, way, thread, records_from, end_of, dst_bytes}

-- ---- parts

pub parts_some : (d : Whole) → 0 < parts d
unfolding parts
parts_some d = omega arith

-- of at most 121
pub parts_enough : (d : Whole) → (nat_abs d.x ≤ 121 * parts d) × (nat_abs d.y ≤ 121 * parts d)
unfolding parts
parts_enough d = (omega arith, omega arith)

-- and no fewer are
pub parts_fewest : (d : Whole) (n : ℕ) → 0 < n → nat_abs d.x ≤ 121 * n → nat_abs d.y ≤ 121 * n → parts d ≤ n
unfolding parts
parts_fewest d n some x y = omega arith

-- ---- cuts

quotient_above : (d : ℤ) (i n : ℕ) → above (quotient d i n) ≡ i * above d / n
quotient_above (pos m) i n = refl
quotient_above (negsuc m) i n = neg_above (pos (i * suc m / n)) ∙ sym (rw (mul-zero i) (zero-div n))

quotient_below : (d : ℤ) (i n : ℕ) → below (quotient d i n) ≡ i * below d / n
quotient_below (pos m) i n = sym (rw (mul-zero i) (zero-div n))
quotient_below (negsuc m) i n = neg_below (pos (i * suc m / n))

-- the next part of m cut by n is at most 121
part_small : (m i n : ℕ) → 0 < n → m ≤ 121 * n → (i * m / n ≤ (i + 1) * m / n) × ((i + 1) * m / n ≤ i * m / n + 121)
part_small m i n N h =
    let s : (i + 1) * m ≡ i * m + m = rw (add-mul i 1 m, one-mul m) in
    let a : i * m / n ≤ (i + 1) * m / n = div_mono (i * m) n ((i + 1) * m) n N N (grow (i * m) ((i + 1) * m) n (omega (arith, s))) in
    let b : (i + 1) * m / n ≤ (121 * n + i * m) / n = div_mono ((i + 1) * m) n (121 * n + i * m) n N N (grow ((i + 1) * m) (121 * n + i * m) n (omega (arith, s))) in
    (a, omega (arith, b, mul-add-div_right N 121 (i * m)))
  where
    grow : (x y n : ℕ) → x ≤ y → x * n ≤ y * n
    grow x y n h = mul-le-mul_right n h

none_of : (x i n : ℕ) → x ≡ 0 → i * x / n ≡ 0
none_of x i n e = rw (e, mul-zero i) (zero-div n)

step_small : (a d : ℤ) (i n : ℕ) → 0 < n → nat_abs d ≤ 121 * n → nat_abs (cut_at a d n (i + 1) -ℤ cut_at a d n i) ≤ 121
unfolding cut_at
step_small a d i n N h =
    let p = quotient d i n in
    let q = quotient d (i + 1) n in
    let z = (a +ℤ q) -ℤ (a +ℤ p) in
    let s : above z + below q + above p ≡ above q + below p + below z = omega (arith, sub_parts_is (a +ℤ q) (a +ℤ p), add_parts a q, add_parts a p) in
    let u = part_small (above d) i n N (omega (arith, abs_parts d)) in
    let l = part_small (below d) i n N (omega (arith, abs_parts d)) in
    elim (one_side d) [
      | inl e ↦ one (above z) (below z) (nat_abs z) (below p) (below q) (omega (arith, s, quotient_above d i n, quotient_above d (i + 1) n, none_of (above d) i n e, none_of (above d) (i + 1) n e)) (omega (arith, quotient_below d i n, quotient_below d (i + 1) n, l.0)) (omega (arith, quotient_below d i n, quotient_below d (i + 1) n, l.1)) (abs_parts z) (one_side z)
      | inr e ↦ one (below z) (above z) (nat_abs z) (above p) (above q) (omega (arith, s, quotient_below d i n, quotient_below d (i + 1) n, none_of (below d) i n e, none_of (below d) (i + 1) n e)) (omega (arith, quotient_above d i n, quotient_above d (i + 1) n, u.0)) (omega (arith, quotient_above d i n, quotient_above d (i + 1) n, u.1)) (omega (arith, abs_parts z)) (turn (one_side z))
    ]
  where
    one : (x y t p q : ℕ) → x + q ≡ p + y → p ≤ q → q ≤ p + 121 → t ≡ x + y → (x ≡ 0) ⊎ (y ≡ 0) → t ≤ 121
    one x y t p q s le most e o = elim o [ inl z ↦ omega arith | inr z ↦ omega arith ]

    turn : {x y : ℕ} → (x ≡ 0) ⊎ (y ≡ 0) → (y ≡ 0) ⊎ (x ≡ 0)
    turn o = elim o [ inl z ↦ inr z | inr z ↦ inl z ]

-- part i + 1 of the way is at most 121 either way
pub part_fits : (a b : Whole) (i : ℕ) → let d = move a b in let s = move (cut a d (parts d) i) (cut a d (parts d) (i + 1)) in (nat_abs s.x ≤ 121) × (nat_abs s.y ≤ 121)
part_fits a b i =
    let d = move a b in
    let h = parts_enough d in
    (step_small a.x d.x i (parts d) (parts_some d) h.0, step_small a.y d.y i (parts d) (parts_some d) h.1)

quotient_none : (d : ℤ) (n : ℕ) → quotient d 0 n ≡ pos 0
quotient_none d n = same_int (quotient d 0 n) (pos 0) (omega (arith, quotient_above d 0 n, quotient_below d 0 n, nought (above d), nought (below d)))
  where
    nought : (x : ℕ) → 0 * x / n ≡ 0
    nought x = rw (zero-mul x) (zero-div n)

quotient_all : (d : ℤ) (n : ℕ) → 0 < n → quotient d n n ≡ d
quotient_all d n N = same_int (quotient d n n) d (omega (arith, quotient_above d n n, quotient_below d n n, mul-div_right (above d) N, mul-div_right (below d) N))

pub there : (a b : ℤ) → a +ℤ (b -ℤ a) ≡ b
there a b = same_int (a +ℤ (b -ℤ a)) b (omega (arith, add_parts a (b -ℤ a), sub_parts_is b a))

here : (a : ℤ) → a +ℤ pos 0 ≡ a
here a = same_int (a +ℤ pos 0) a (omega (arith, add_parts a (pos 0)))

-- the cuts run from a to b: nothing piles up
pub cut_first : (a d : ℤ) (n : ℕ) → cut_at a d n 0 ≡ a
unfolding cut_at
cut_first a d n = rw (quotient_none d n) (here a)

pub cut_none : (a d : Whole) (n : ℕ) → cut a d n 0 ≡ a
cut_none a d n = rw (cut_first a.x d.x n, cut_first a.y d.y n)

end_there : (a b : ℤ) (n : ℕ) → 0 < n → cut_at a (b -ℤ a) n n ≡ b
unfolding cut_at
end_there a b n N = rw (quotient_all (b -ℤ a) n N) (there a b)

pub cut_last : (a b : Whole) (n : ℕ) → 0 < n → cut a (move a b) n n ≡ b
cut_last a b n N = rw (end_there a.x b.x n N, end_there a.y b.y n N)

-- ---- marks

module _ (a d : Whole) (n : ℕ) where
  pub cuts_length : (i left : ℕ) → length (cuts_from a d n i left) ≡ left
  unfolding cuts_from
  cuts_length i zero = refl
  cuts_length i (suc left) = ap suc (cuts_length (i + 1) left)

  cuts_end : (z : Whole) (i left : ℕ) → end_of z (cuts_from a d n i (suc left)) ≡ cut a d n (i + left)
  unfolding cuts_from
  cuts_end z i zero = let e : i + 0 ≡ i = omega arith in rw e
  cuts_end z i (suc left) = let e : i + suc left ≡ i + 1 + left = omega arith in rw e (cuts_end (cut a d n i) (i + 1) left)

  pub cuts_next : (i : ℕ) → i ≤ n → cuts_from a d n i (n + 1 - i) ≡ record { kind = kind_at i n; to = cut a d n i } ∷ cuts_from a d n (i + 1) (n + 1 - (i + 1))
  unfolding cuts_from
  cuts_next i h = let e : n + 1 - i ≡ suc (n + 1 - (i + 1)) = omega arith in rw e

  pub cuts_none : (i : ℕ) → n < i → cuts_from a d n i (n + 1 - i) ≡ []
  unfolding cuts_from
  cuts_none i h = let e : n + 1 - i ≡ 0 = omega arith in rw e

module _ (a b : Whole) where
  pub way_length : length (way a b) ≡ parts (move a b)
  unfolding way
  way_length = cuts_length a (move a b) (parts (move a b)) 1 (parts (move a b))

  pub way_end : end_of a (way a b) ≡ b
  unfolding way
  way_end =
      let d = move a b in
      let e : parts d ≡ suc (parts d - 1) = omega (arith, parts_some d) in
      let f : 1 + (parts d - 1) ≡ parts d = omega (arith, parts_some d) in
      ap (λ (l : ℕ). end_of a (cuts_from a d (parts d) 1 l)) e ∙ cuts_end a d (parts d) a 1 (parts d - 1) ∙ ap (cut a d (parts d)) f ∙ cut_last a b (parts d) (parts_some d)

-- ---- every record's move is at most 121 either way

abbrev pub Steps : Whole → List Mark → Type 0
Steps a [] = Unit {0}
Steps a (m ∷ ms) = (nat_abs (move a m.to).x ≤ 121) × (nat_abs (move a m.to).y ≤ 121) × Steps m.to ms

cuts_steps : (a b : Whole) (i left : ℕ) → let d = move a b in Steps (cut a d (parts d) i) (cuts_from a d (parts d) (i + 1) left)
unfolding cuts_from
cuts_steps a b i zero = tt
cuts_steps a b i (suc left) = let f = part_fits a b i in (f.0, f.1, cuts_steps a b (i + 1) left)

way_steps : (a b : Whole) → Steps a (way a b)
unfolding way
way_steps a b = let d = move a b in rw (cut_first a.x d.x (parts d), cut_first a.y d.y (parts d)) at (cuts_steps a b 0 (parts d))

steps_append : (a : Whole) (ms ns : List Mark) → Steps a ms → Steps (end_of a ms) ns → Steps a (ms ++ ns)
steps_append a [] ns h k = k
steps_append a (m ∷ ms) ns h k = (h.0, h.1, steps_append m.to ms ns h.2 k)

pub thread_steps : (a : Whole) (ps : List P) → Steps a (thread a ps)
unfolding thread
thread_steps a [] = tt
thread_steps a (p ∷ ps) = let b = rounded_point p in steps_append a (way a b) (thread b ps) (way_steps a b) (rw (way_end a b) (thread_steps b ps))

-- ---- records

pub record_length : (k : Kind) (dx dy : ℤ) → length (record_of k dx dy) ≡ 3
unfolding record_of bytes_of
record_length k dx dy = refl

pub records_length : (a : Whole) (ms : List Mark) → length (records_from a ms) ≡ 3 * length ms
unfolding records_from
records_length a [] = refl
records_length a (m ∷ ms) =
    let r = record_of m.kind (move a m.to).x (move a m.to).y in
    omega (arith, length-append r (records_from m.to ms), record_length m.kind (move a m.to).x (move a m.to).y, records_length m.to ms)

pub records_append : (a : Whole) (ms ns : List Mark) → records_from a (ms ++ ns) ≡ records_from a ms ++ records_from (end_of a ms) ns
unfolding records_from
records_append a [] ns = refl
records_append a (m ∷ ms) ns =
    let r = record_of m.kind (move a m.to).x (move a m.to).y in
    ap (λ (l : List ℕ). r ++ l) (records_append m.to ms ns) ∙ sym (append_assoc r (records_from m.to ms) (records_from (end_of m.to ms) ns))

-- the records of the way to the next point, and of the rest
pub thread_next : (a : Whole) (p : P) (ps : List P) → records_from a (thread a (p ∷ ps)) ≡ records_from a (way a (rounded_point p)) ++ records_from (rounded_point p) (thread (rounded_point p) ps)
unfolding thread
thread_next a p ps =
    let b = rounded_point p in
    records_append a (way a b) (thread b ps) ∙ ap (λ (z : Whole). records_from a (way a b) ++ records_from z (thread b ps)) (way_end a b)

pub thread_count : (a : Whole) (p : P) (ps : List P) → length (thread a (p ∷ ps)) ≡ parts (move a (rounded_point p)) + length (thread (rounded_point p) ps)
unfolding thread
thread_count a p ps = let b = rounded_point p in length-append (way a b) (thread b ps) ∙ ap (λ (n : ℕ). n + length (thread b ps)) (way_length a b)

pub bytes_length : (ps : List P) → length (dst_bytes ps) ≡ 3 * (1 + length (thread origin ps))
unfolding dst_bytes
bytes_length ps = let ms = thread origin ps in omega (arith, length-append (records_from origin ms) end_record, records_length origin ms)

pub records_none : (a : Whole) {ms : List Mark} → ms ≡ [] → records_from a ms ≡ []
unfolding records_from
records_none a e = rw e
