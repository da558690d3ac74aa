-- Parts of the way one after the other, and what the code does to its slices on them. Assumes nothing.
use Rattle.std.specs.Prelude.{ℕ, ◌+◌, ◌-◌, ◌*◌, ◌^◌, min, ◌≤◌, ◌<◌, ◌≡◌, length, take, drop, Float}
use Rattle.std.proofs.Common.{arith, sym, ◌∙◌, subst, length-append, length-take-le, take_at}
use Rattle.std.proofs.Math.Path.{refl, ap}
use mathlib.Core.List.{List, [], ◌∷◌, ◌++◌, append_assoc, append-nil}
use Rattle.std.proofs.Math.Logic.{inl, inr}
use Rattle.seqs.specs.Slices.{capped, Wrote, put}
use Rattle.seqs.specs.Capped.{capped_cases, capped_still, capped_on}
use Rattle.seqs.specs.Reads.{take_on}
use Rattle.seqs.specs.Wrote.{head_length, run_start, run_at, run_step, run_end, wrote_none, wrote_full}
use Rattle.seqs.specs.Put.{put_length}
use Rattle.geom.specs.Sewing.{flat}
use Rattle.geom.specs.SewingLaws.{flat_length, flat_append}
use Rattle.trail.specs.declared.pen.Pen.{Pen}
use Rattle.trail.specs.Trail.{most, held, Done, nothing, both, run, Sewed}

-- ---- counts that stop at the largest number

module _ (n m : ℕ) where
  pub held_exact : n + m < 2 ^ 64 → held n m ≡ n + m
  unfolding held
  held_exact h = capped_still most (n + m) (omega arith)

  pub held_low : n < 2 ^ 64 → n ≤ held n m
  unfolding held
  held_low h = elim (capped_cases most (n + m)) [ inl w ↦ omega (arith, w) | inr w ↦ omega (arith, w) ]

  -- a count under the largest number is exact
  pub held_back : held n m + 1 < 2 ^ 64 → held n m ≡ n + m
  unfolding held
  held_back h = elim (capped_cases most (n + m)) [ inl w ↦ w.1 | inr w ↦ absurd (omega (arith, w)) ]

  pub held_few : held n m < 2 ^ 64
  unfolding held
  held_few = elim (capped_cases most (n + m)) [ inl w ↦ omega (arith, w) | inr w ↦ omega (arith, w) ]

  pub held_most : held n m ≤ n + m
  unfolding held
  held_most = elim (capped_cases most (n + m)) [ inl w ↦ omega (arith, w) | inr w ↦ omega (arith, w) ]

-- the library's sum that stops
pub held_min : (n m : ℕ) → min (n + m) (2 ^ 64 - 1) ≡ held n m
unfolding held
held_min n m = elim (capped_cases most (n + m)) [ inl w ↦ omega (arith, w) | inr w ↦ omega (arith, w) ]

pub held_none : (n : ℕ) → n < 2 ^ 64 → n ≡ held n 0
held_none n h = let e : n ≡ n + 0 = omega arith in e ∙ sym (held_exact n 0 (omega arith))

pub held_on : (n m k : ℕ) → held (held n m) k ≡ held n (m + k)
unfolding held
held_on n m k = let e : n + m + k ≡ n + (m + k) = omega arith in capped_on most (n + m) k ∙ ap (capped most) e

-- ---- a slice into which a part is written after a part

module _ {ℓ} {A : Type ℓ} where
  pub wrote_two : {d d' d'' : List A} {k k' : ℕ} {m m' : List A} → Wrote d d' k m → Wrote d' d'' k' m' → k ≤ k' → (k + length m ≤ length d → k' ≡ k + length m) → Wrote d d'' k (m ++ m')
  wrote_two {d} {d'} {d''} {k} {k'} {m} {m'} v w low e =
      record {
        size = w.size ∙ v.size;
        kept = take_on d'' d' k k' low w.kept ∙ v.kept;
        is = λ h.
            let q = e (omega (arith, length-append m m')) in
            let x = run_step m m' (run_start d (m ++ m') k) v in
            let y = run_step m' [] (run_at (sym (append-nil m')) x) (subst (λ j. Wrote d' d'' j m') q w) in
            (run_end y).is h;
      }

  pub put_wrote : (d m : List A) (k : ℕ) {d' : List A} → k + length m ≤ length d → d' ≡ put d k m → Wrote d d' k m
  put_wrote d m k {d'} h e =
      let l = length-take-le k d (omega arith) in
      record {
        size = ap length e ∙ put_length d m k h;
        kept = rw e (rw (append_assoc (take k d) m (drop (length (take k d ++ m)) d)) (take_at (take k d) (m ++ drop (length (take k d ++ m)) d) k l));
        is = λ g. rw (head_length d m k (omega arith)) at e;
      }

  -- nothing is written where the slice ends before
  pub wrote_past : (d m : List A) (k : ℕ) → length d ≤ k → Wrote d d k m
  wrote_past d [] k h = wrote_none d k
  wrote_past d (a ∷ m) k h = wrote_full d (a ∷ m) k (omega arith)

-- ---- parts one after the other

module _ {ℓ} {A : Type ℓ} (one : A → Pen → Done) where
  both_assoc : (c d e : Done) → both c (both d e) ≡ both (both c d) e
  unfolding both
  both_assoc c d e = rw (append_assoc c.points d.points e.points, append_assoc c.ends d.ends e.ends)

  pub run_append : (l m : List A) (s : Pen) → run one (l ++ m) s ≡ both (run one l s) (run one m (run one l s).pen)
  unfolding run both nothing
  run_append [] m s = refl
  run_append (a ∷ l) m s = ap (both (one a s)) (run_append l m (one a s).pen) ∙ both_assoc (one a s) (run one l (one a s).pen) (run one m (run one l (one a s).pen).pen)

-- ---- what the code does to its slices: a part, and then another

module _ {out₀ out₁ out₂ : List Float} {ends₀ ends₁ ends₂ : List ℕ} (long : length out₀ < 2 ^ 64) (longer : length ends₀ < 2 ^ 64) where
  pub sewed_both : {d e : Done} {s r t : Pen} → s.points < 2 ^ 64 → s.lines < 2 ^ 64 → Sewed d s r out₀ out₁ ends₀ ends₁ → Sewed e r t out₁ out₂ ends₁ ends₂ → Sewed (both d e) s t out₀ out₂ ends₀ ends₂
  unfolding both
  sewed_both {d} {e} {s} {r} {t} few less v w =
      let f = flat_length d.points in
      record {
        pen = w.pen;
        lines = w.lines ∙ ap (λ (n : ℕ). held n (length e.ends)) v.lines ∙ held_on s.lines (length d.ends) (length e.ends) ∙ ap (held s.lines) (sym (length-append d.ends e.ends));
        count = w.count ∙ ap (λ (n : ℕ). held n (length e.points)) v.count ∙ held_on s.points (length d.points) (length e.points) ∙ ap (held s.points) (sym (length-append d.points e.points));
        points = rw (flat_append d.points e.points) (wrote_two v.points w.points (omega (arith, v.count, held_low s.points (length d.points) few)) (λ h. omega (arith, f, v.count, held_exact s.points (length d.points) (omega (arith, f)))));
        stops = wrote_two v.stops w.stops (omega (arith, v.lines, held_low s.lines (length d.ends) less)) (λ h. v.lines ∙ held_exact s.lines (length d.ends) (omega arith));
      }

pub sewed_none : (s : Pen) (out : List Float) (ends : List ℕ) → s.points < 2 ^ 64 → s.lines < 2 ^ 64 → Sewed (nothing s) s s out out ends ends
unfolding nothing flat
sewed_none s out ends few less = record { pen = refl; lines = held_none s.lines less; count = held_none s.points few; points = wrote_none out (2 * s.points); stops = wrote_none ends s.lines }

-- ---- the loop of a list of parts: `rest` of the whole is left

module _ {A : Type 0} (one : A → Pen → Done) where
  -- one part alone
  pub run_one : (a : A) (s : Pen) → run one (a ∷ []) s ≡ one a s
  unfolding run both nothing
  run_one a s = rw (append-nil (one a s).points, append-nil (one a s).ends)

  pub record Going (s₀ s : Pen) (out₀ out : List Float) (ends₀ ends : List ℕ) (rest whole : List A) : Type 0 where
    pub done : List A
    pub split : done ++ rest ≡ whole
    pub sewed : Sewed (run one done s₀) s₀ s out₀ out ends₀ ends
    pub long : length out₀ < 2 ^ 64
    pub longer : length ends₀ < 2 ^ 64
    pub few : s₀.points < 2 ^ 64
    pub less : s₀.lines < 2 ^ 64

  pub going_start : (s : Pen) (out : List Float) (ends : List ℕ) (whole : List A) → length out < 2 ^ 64 → length ends < 2 ^ 64 → s.points < 2 ^ 64 → s.lines < 2 ^ 64 → Going s s out out ends ends whole whole
  unfolding run
  going_start s out ends whole long longer few less = record { done = []; split = refl; sewed = sewed_none s out ends few less; long = long; longer = longer; few = few; less = less }

  module _ {s₀ s : Pen} {out₀ out : List Float} {ends₀ ends : List ℕ} {whole : List A} where
    pub going_at : {rest rest' : List A} → rest ≡ rest' → Going s₀ s out₀ out ends₀ ends rest whole → Going s₀ s out₀ out ends₀ ends rest' whole
    going_at e g = subst (λ l. Going s₀ s out₀ out ends₀ ends l whole) e g

    pub going_end : Going s₀ s out₀ out ends₀ ends [] whole → Sewed (run one whole s₀) s₀ s out₀ out ends₀ ends
    going_end g = let e : g.done ≡ whole = sym (append-nil g.done) ∙ g.split in subst (λ l. Sewed (run one l s₀) s₀ s out₀ out ends₀ ends) e g.sewed

    -- the parts m are done
    pub going_on : (m rest : List A) {r : Pen} {out' : List Float} {ends' : List ℕ} → Going s₀ s out₀ out ends₀ ends (m ++ rest) whole → Sewed (run one m s) s r out out' ends ends' → Going s₀ r out₀ out' ends₀ ends' rest whole
    going_on m rest {r} {out'} {ends'} g w =
        let x : Sewed (run one m (run one g.done s₀).pen) s r out out' ends ends' = subst (λ (p : Pen). Sewed (run one m p) s r out out' ends ends') g.sewed.pen w in
        record {
          done = g.done ++ m;
          split = append_assoc g.done m rest ∙ g.split;
          sewed = subst (λ (d : Done). Sewed d s₀ r out₀ out' ends₀ ends') (sym (run_append one g.done m s₀)) (sewed_both g.long g.longer g.few g.less g.sewed x);
          long = g.long;
          longer = g.longer;
          few = g.few;
          less = g.less;
        }

    -- one part is done
    pub going_next : (a : A) (rest : List A) {r : Pen} {out' : List Float} {ends' : List ℕ} → Going s₀ s out₀ out ends₀ ends (a ∷ rest) whole → Sewed (one a s) s r out out' ends ends' → Going s₀ r out₀ out' ends₀ ends' rest whole
    going_next a rest {r} {out'} {ends'} g w = going_on (a ∷ []) rest g (subst (λ (d : Done). Sewed d s r out out' ends ends') (sym (run_one a s)) w)
