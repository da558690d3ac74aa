-- What is proved of the passes: their counts, and each point of one by its place in the first. Assumes nothing.
use Prim.Native.Nat.{ℕ, zero, suc, ◌+◌, ◌-◌, ◌*◌, ◌/◌, ◌%◌, ◌≤◌, ◌<◌}
use native.Mathlib.Omega.{arith}
use Rattle.std.proofs.Common.{zero-mul, ◌∙◌, length-drop, length-take-le, take_at}
use Rattle.std.proofs.Math.Nat.{suc-mul}
use Rattle.std.specs.Prelude.{◌≡◌, refl, Bool, true, false, cond, List, [], ◌∷◌, ◌++◌, reverse, take, drop, get_or, Float}
use Rattle.std.proofs.Math.Path.{sym, ap}
use Rattle.std.proofs.Math.Dec.{eqb}
use Rattle.std.proofs.Math.ListN.{length, length-append}
use Rattle.std.proofs.lemmas.List.{length-reverse}
use Rattle.std.specs.Float.{nan}
use Rattle.std.proofs.lemmas.Bool.{lt-leb}
use Rattle.refusal.specs.Refusal.{ROOM}
use Rattle.seqs.specs.Front.{Front, front_kept, next, none}
use Rattle.seqs.specs.Slices.{put, capped}
use Rattle.seqs.specs.Capped.{capped_past}
use Rattle.seqs.specs.Put.{put_length, put_then}
use Rattle.seqs.specs.Reverse.{get_d_reverse, place_below}
use Rattle.geom.specs.declared.point.P.{P}
use Rattle.geom.specs.Outline.{points}
use Rattle.geom.specs.OutlineLaws.{corner_at, points_length, points_at}
use Rattle.geom.specs.Sewing.{flat, fitted}
use Rattle.geom.specs.SewingLaws.{flat_length, flat_append, points_flat}
use Rattle.stroke.specs.Running.{one_pass, pass, passes_from, running, standing}

-- ---- one pass

-- a list as a pass goes over it
abbrev pub turned : List P → Bool → List P
turned one back = cond back (reverse one) one

pub turned_length : (one : List P) (back : Bool) → length (turned one back) ≡ length one
turned_length one true = length-reverse one
turned_length one false = refl

turned_at : (one : List P) (back : Bool) (r : ℕ) (z : P) → r < length one → get_or (turned one back) r z ≡ get_or one (cond back (length one - 1 - r) r) z
turned_at one true r z h = get_d_reverse one r z h
turned_at one false r z h = refl

pub pass_length : (one : List P) (back : Bool) → length (pass one back) ≡ length one - 1
unfolding pass
pass_length one back = length-drop 1 (turned one back) ∙ ap (λ (n : ℕ). n - 1) (turned_length one back)

-- the n points at the front of d₀, of which a pass writes copies behind the first k numbers
module _ (d₀ : List Float) (n : ℕ) (has : 2 * n ≤ length d₀) where
  pub standing_length : length (standing d₀ n) ≡ n
  standing_length = omega (arith, points_length (take (2 * n) d₀), length-take-le (2 * n) d₀ has)

  pub pass_next : (back : Bool) (r : ℕ) → r < n → drop r (turned (standing d₀ n) back) ≡ corner_at (take (2 * n) d₀) (2 * cond back (n - 1 - r) r) ∷ drop (r + 1) (turned (standing d₀ n) back)
  pass_next back r h =
      let one = standing d₀ n in
      let z = corner_at d₀ 0 in
      let j = cond back (n - 1 - r) r in
      let e : get_or (turned one back) r z ≡ get_or one j z = turned_at one back r z (omega (arith, standing_length)) ∙ rw standing_length in
      let f : get_or one j z ≡ corner_at (take (2 * n) d₀) (2 * j) = points_at (take (2 * n) d₀) j z (omega (arith, place_below back r n h, length-take-le (2 * n) d₀ has)) in
      next (turned one back) r z (omega (arith, turned_length one back, standing_length)) ∙ ap (λ (p : P). p ∷ drop (r + 1) (turned one back)) (e ∙ f)

  pub pass_none : (back : Bool) (r : ℕ) → n ≤ r → drop r (turned (standing d₀ n) back) ≡ []
  pass_none back r h = none (turned (standing d₀ n) back) r (omega (arith, turned_length (standing d₀ n) back, standing_length))

  -- a point of the first n is read as it stood, whatever is written behind them
  pub standing_kept : {d : List Float} {at : ℕ} {rest : List Float} (x : List Float) (k j : ℕ) → Front d₀ d at rest (take k d₀ ++ x) → k ≤ at → 2 * n ≤ k → j < n → corner_at d (2 * j) ≡ corner_at (take (2 * n) d₀) (2 * j)
  standing_kept x k j f ge le h =
      let a = front_kept x k (2 * n) (2 * j) nan f ge (omega arith) le in
      let b = front_kept x k (2 * n) (2 * j + 1) nan f ge (omega arith) le in
      rw (a, b)

-- ---- all passes

module _ (one : List P) where
  pub passes_length : (t left : ℕ) → length (passes_from one t left) ≡ left * (length one - 1)
  unfolding passes_from
  passes_length t zero = sym (zero-mul (length one - 1))
  passes_length t (suc left) =
      let back = eqb (t % 2) 1 in
      length-append (pass one back) (passes_from one (t + 1) left) ∙ omega (arith, pass_length one back, passes_length (t + 1) left, suc-mul left (length one - 1))

  pub passes_next : (t p : ℕ) → t < p → passes_from one t (p - t) ≡ pass one (eqb (t % 2) 1) ++ passes_from one (t + 1) (p - (t + 1))
  unfolding passes_from
  passes_next t p h = let e : p - t ≡ suc (p - (t + 1)) = omega arith in rw e

  pub passes_none : (t p : ℕ) → p ≤ t → passes_from one t (p - t) ≡ []
  unfolding passes_from
  passes_none t p h = let e : p - t ≡ 0 = omega arith in rw e

-- ---- all of them

module _ (line : List P) (closed : Bool) (len : Float) (passes : ℕ) where
  running_length : length (running line closed len passes) ≡ length (one_pass line closed len) + (passes - 1) * (length (one_pass line closed len) - 1)
  unfolding running
  running_length = let one = one_pass line closed len in length-append one (passes_from one 1 (passes - 1)) ∙ ap (λ (k : ℕ). length one + k) (passes_length one 1 (passes - 1))

  running_flat : flat (running line closed len passes) ≡ flat (one_pass line closed len) ++ flat (passes_from (one_pass line closed len) 1 (passes - 1))
  unfolding running
  running_flat = let one = one_pass line closed len in flat_append one (passes_from one 1 (passes - 1))

  -- one pass alone has no room
  pub one_past : (room : ℕ) {c : ℕ} → c ≡ capped (room / 2) (length (one_pass line closed len)) → room / 2 < c → fitted (running line closed len passes) room ≡ ROOM
  unfolding fitted
  one_past room e h =
      let m = running line closed len passes in
      rw (lt-leb (length (flat m)) room (omega (arith, flat_length m, running_length, capped_past (room / 2) (length (one_pass line closed len)) e h)))

  -- the count of all, from that of one
  pub all_counted : (cap : ℕ) {n c : ℕ} → n ≡ length (one_pass line closed len) → c ≡ capped cap (n + (passes - 1) * (n - 1)) → c ≡ capped cap (length (running line closed len passes))
  all_counted cap e f = f ∙ rw (e, running_length)

  -- the first pass stands at the front of d₁: the others go over it
  module _ (d d₁ : List Float) (n : ℕ) (e : d₁ ≡ put d 0 (flat (one_pass line closed len))) (f : n ≡ length (one_pass line closed len)) where
    standing_one : standing d₁ n ≡ one_pass line closed len
    standing_one =
        let one = one_pass line closed len in
        let h : length (flat one) ≡ 2 * n = flat_length one ∙ rw f in
        rw e (ap points (take_at (flat one) (drop (length (flat one)) d) (2 * n) h) ∙ points_flat one)

    module _ (fits : length (flat (running line closed len passes)) ≤ length d) where
      sizes : 2 * n + length (flat (passes_from (one_pass line closed len) 1 (passes - 1))) ≤ length d
      sizes =
          let one = one_pass line closed len in
          omega (arith, f, flat_length one, ap length running_flat ∙ length-append (flat one) (flat (passes_from one 1 (passes - 1))))

      pub passes_room : 2 * n + length (flat (passes_from (standing d₁ n) 1 (passes - 1))) ≤ length d₁
      passes_room =
          let one = one_pass line closed len in
          rw standing_one (omega (arith, sizes, ap length e ∙ put_length d (flat one) 0 (omega (arith, sizes, f, flat_length one))))

      pub running_put : (y : List Float) → y ≡ put d₁ (2 * n) (flat (passes_from (standing d₁ n) 1 (passes - 1))) → y ≡ put d 0 (flat (running line closed len passes))
      running_put y g =
          let one = one_pass line closed len in
          rw running_flat
          (put_then d d₁ y (flat one) (flat (passes_from one 1 (passes - 1))) 0 (2 * n) (omega (arith, sizes, f, flat_length one)) e (omega (arith, f, flat_length one)) (rw standing_one at g))
