-- The turns of the loops: the steps of a piece, the pieces of a path, the paths of all walks; and what the counts say. Assumes nothing.
use Rattle.std.specs.Prelude.{ℕ, ◌+◌, ◌-◌, ◌*◌, ◌^◌, ◌≤◌, ◌<◌, ◌≡◌, length, drop, get_or, pos, Float}
use Rattle.std.proofs.Common.{arith, sym, ◌∙◌}
use Rattle.std.proofs.Math.Path.{refl, ap, subst}
use mathlib.Core.List.{List, [], ◌∷◌, ◌++◌}
use Rattle.std.proofs.Math.ListN.{take}
use Rattle.std.specs.Float.{binary64}
use Rattle.std.specs.Float.Ieee.{of_bits, round}
use Rattle.numbers.specs.Num.{real, literal}
use Rattle.numbers.specs.Order.{larger}
use Rattle.seqs.specs.Front.{next, none}
use Rattle.seqs.specs.Slices.{Wrote}
use Rattle.seqs.specs.Wrote.{wrote_none}
use Rattle.geom.specs.declared.point.P.{P}
use Rattle.geom.specs.Point.{lerp}
use Rattle.geom.specs.Steps.{along}
use Rattle.geom.specs.Outline.{cut}
use Rattle.geom.specs.Sewing.{flat}
use Rattle.outlines.specs.declared.rule.FillRule.{FillRule}
use Rattle.outlines.specs.Inside.{point_inside}
use Rattle.polyline.specs.Line.{piece_steps, steps_from, step_ends, piece, pieces_from, pieces, resample_keep_corners}
use Rattle.polyline.proofs.LineLaws.{steps_next, steps_none, ends_last}
use Rattle.meander_rules.specs.declared.Lattice.{Lattice}
use Rattle.meander_rules.specs.Meander.{place, smooth_from, smooth, dense_along}
use Rattle.trail.specs.declared.pen.Pen.{Pen}
use Rattle.trail.specs.Trail.{Done, both, run, begin, on_to, finish, clip_line, along_path, ahead, Sewed}
use Rattle.trail.specs.Parts.{held_few, held_none, sewed_both, sewed_none, Going, going_at, going_on, going_next, going_end}

-- the patterns that the code's 0.3 and 0.7 are read as
pub three_tenths : literal 3 10 ≡ of_bits binary64 0x3fd3333333333333
unfolding literal round of_bits
three_tenths = refl

pub seven_tenths : literal 7 10 ≡ of_bits binary64 0x3fe6666666666666
unfolding literal round of_bits
seven_tenths = refl

-- the steps before the last, and the corner
pub piece_is : (a b : P) (len : Float) {n : ℕ} → n ≡ piece_steps a b len → 0 < n → steps_from a b n 1 (n - 1) ++ (b ∷ []) ≡ piece a b len
unfolding piece
piece_is a b len {n} e h = sym (ends_last a b n h) ∙ ap (step_ends a b) e

module _ (rings : List (List P)) (rule : FillRule) where
  -- after a step the pen knows whether it is inside
  pub on_inside : (q : P) (s : Pen) {r : Pen} → r ≡ (on_to rings rule q s).pen → r.inside ≡ point_inside rings rule r.at
  unfolding on_to
  on_inside q s e = rw e

  pub begin_inside : (p : P) (s : Pen) {r : Pen} → r ≡ begin rings rule p s → r.inside ≡ point_inside rings rule r.at
  unfolding begin
  begin_inside p s e = rw e

  -- ---- the steps of a piece

  module _ {s₀ s : Pen} {out₀ out : List Float} {ends₀ ends : List ℕ} where
    module _ (a b : P) (n i : ℕ) {r : Pen} {out' : List Float} {ends' : List ℕ} where
      pub step_on : {whole : List P} {q : P} → Going (on_to rings rule) s₀ s out₀ out ends₀ ends (steps_from a b n i (n - i) ++ (b ∷ [])) whole → i < n → q ≡ along a b n i → Sewed (on_to rings rule q s) s r out out' ends ends'
          → Going (on_to rings rule) s₀ r out₀ out' ends₀ ends' (steps_from a b n (i + 1) (n - (i + 1)) ++ (b ∷ [])) whole
      step_on g h e w =
          going_next (on_to rings rule) (along a b n i) (steps_from a b n (i + 1) (n - (i + 1)) ++ (b ∷ [])) (going_at (on_to rings rule) (ap (λ (l : List P). l ++ (b ∷ [])) (steps_next a b n i h)) g) (rw e at w)

      pub step_last : {whole : List P} → Going (on_to rings rule) s₀ s out₀ out ends₀ ends (steps_from a b n i (n - i) ++ (b ∷ [])) whole → n ≤ i → Sewed (on_to rings rule b s) s r out out' ends ends'
          → Sewed (run (on_to rings rule) whole s₀) s₀ r out₀ out' ends₀ ends'
      step_last g h w =
          going_end (on_to rings rule) (going_next (on_to rings rule) b [] (going_at (on_to rings rule) (ap (λ (l : List P). l ++ (b ∷ [])) (steps_none a b n i h)) g) w)

  pub piece_none : (a b : P) (len : Float) {n : ℕ} → n ≡ piece_steps a b len → n ≡ 0 → (s : Pen) (out : List Float) (ends : List ℕ) → s.points < 2 ^ 64 → s.lines < 2 ^ 64 → Sewed (run (on_to rings rule) (piece a b len) s) s s out out ends ends
  unfolding piece step_ends run
  piece_none a b len e z s out ends few less = rw (sym e ∙ z) (sewed_none s out ends few less)

  -- ---- the pieces of a path, from smooth point c and grid point k on, where the point before k stands at a

  module _ (g : Lattice) (len : Float) (path : List ℕ) where
    module _ (c a : P) (k : ℕ) where
      ahead_next : k < length path → {b l r : P} → b ≡ place g (get_or path k 0) → l ≡ lerp a b (literal 3 10) → r ≡ lerp a b (literal 7 10) → ahead g len path c a k ≡ piece c l len ++ (piece l r len ++ ahead g len path r b (k + 1))
      unfolding ahead smooth_from pieces_from
      ahead_next h d e f = rw (next path k 0 h, e, f, d)

      ahead_none : length path ≤ k → ahead g len path c a k ≡ piece c a len ++ []
      unfolding ahead smooth_from pieces_from
      ahead_none h = rw (none path k h)

      module _ {s₀ s : Pen} {out₀ out : List Float} {ends₀ ends : List ℕ} {whole : List P} (w : Going (on_to rings rule) s₀ s out₀ out ends₀ ends (ahead g len path c a k) whole) where
        pub turn_on : k < length path → {b l r : P} → b ≡ place g (get_or path k 0) → l ≡ lerp a b (literal 3 10) → r ≡ lerp a b (literal 7 10)
            → {t u : Pen} {out₁ out₂ : List Float} {ends₁ ends₂ : List ℕ} → Sewed (run (on_to rings rule) (piece c l len) s) s t out out₁ ends ends₁ → Sewed (run (on_to rings rule) (piece l r len) t) t u out₁ out₂ ends₁ ends₂
            → Going (on_to rings rule) s₀ u out₀ out₂ ends₀ ends₂ (ahead g len path r b (k + 1)) whole
        turn_on h {b} {l} {r} d e f v x =
            going_on (on_to rings rule) (piece l r len) (ahead g len path r b (k + 1)) (going_on (on_to rings rule) (piece c l len) (piece l r len ++ ahead g len path r b (k + 1)) (going_at (on_to rings rule) (ahead_next h d e f) w) v) x

        pub turn_last : length path ≤ k → {t : Pen} {out₁ : List Float} {ends₁ : List ℕ} → Sewed (run (on_to rings rule) (piece c a len) s) s t out out₁ ends ends₁ → Sewed (run (on_to rings rule) whole s₀) s₀ t out₀ out₁ ends₀ ends₁
        turn_last h v = going_end (on_to rings rule) (going_on (on_to rings rule) (piece c a len) [] (going_at (on_to rings rule) (ahead_none h) w) v)

  -- ---- a path

  module _ (g : Lattice) (len : Float) where
    short_dense : (path : List ℕ) → length path < 2 → dense_along g len path ≡ []
    unfolding dense_along smooth resample_keep_corners pieces
    short_dense [] h = refl
    short_dense (k ∷ []) h = refl
    short_dense (k ∷ m ∷ path) h = absurd (omega arith)

    long_dense : (path : List ℕ) → 1 < length path → dense_along g len path ≡ place g (get_or path 0 0) ∷ ahead g (larger len (real (pos 5))) path (place g (get_or path 0 0)) (place g (get_or path 0 0)) 1
    unfolding dense_along smooth resample_keep_corners pieces ahead
    long_dense [] h = absurd (omega arith)
    long_dense (k ∷ []) h = absurd (omega arith)
    long_dense (k ∷ m ∷ path) h = refl

    pub path_none : (path : List ℕ) → length path < 2 → (s : Pen) (out : List Float) (ends : List ℕ) → s.points < 2 ^ 64 → s.lines < 2 ^ 64 → Sewed (along_path rings rule g len path s) s s out out ends ends
    unfolding along_path clip_line
    path_none path h s out ends few less = rw (short_dense path h) (sewed_none s out ends few less)

    sewed_finish : {u v : Pen} {ends₁ ends₂ : List ℕ} (out : List Float) → u.points < 2 ^ 64 → v ≡ (finish u).pen → Wrote ends₁ ends₂ u.lines (finish u).ends → Sewed (finish u) u v out out ends₁ ends₂
    unfolding finish flat
    sewed_finish {u} out few e w = record { pen = e; lines = ap (λ (p : Pen). p.lines) e; count = ap (λ (p : Pen). p.points) e ∙ held_none u.points few; points = wrote_none out (2 * u.points); stops = w }

    -- what a line does from where it begins, it does from what was before
    from_begin : (p : P) (s : Pen) {d : Done} {v : Pen} {out out' : List Float} {ends ends' : List ℕ} → Sewed d (begin rings rule p s) v out out' ends ends' → Sewed d s v out out' ends ends'
    unfolding begin
    from_begin p s w = record { pen = w.pen; lines = w.lines; count = w.count; points = w.points; stops = w.stops }

    begin_points : (p : P) (s : Pen) → (begin rings rule p s).points ≡ s.points
    unfolding begin
    begin_points p s = refl

    begin_lines : (p : P) (s : Pen) → (begin rings rule p s).lines ≡ s.lines
    unfolding begin
    begin_lines p s = refl

    pub path_sewed : (path : List ℕ) → 1 < length path → (p : P) {t : Float} (s : Pen) {b u v : Pen} {out out' : List Float} {ends ends₁ ends₂ : List ℕ} → p ≡ place g (get_or path 0 0) → t ≡ larger len (real (pos 5)) → b ≡ begin rings rule p s
        → length out < 2 ^ 64 → length ends < 2 ^ 64 → s.points < 2 ^ 64 → s.lines < 2 ^ 64
        → Sewed (run (on_to rings rule) (ahead g t path (place g (get_or path 0 0)) (place g (get_or path 0 0)) 1) b) b u out out' ends ends₁ → v ≡ (finish u).pen → Wrote ends₁ ends₂ u.lines (finish u).ends → Sewed (along_path rings rule g len path s) s v out out' ends ends₂
    unfolding along_path clip_line
    path_sewed path h p {t} s {b} {u} {v} {out} {out'} {ends} {ends₁} {ends₂} e f d long longer few less w x y =
        let p₀ = place g (get_or path 0 0) in
        let b₀ = begin rings rule p₀ s in
        let line = ahead g (larger len (real (pos 5))) path p₀ p₀ 1 in
        let e₀ : b ≡ b₀ = d ∙ ap (λ (q : P). begin rings rule q s) e in
        let w₀ : Sewed (run (on_to rings rule) line b₀) b₀ u out out' ends ends₁ = subst (λ (q : Pen). Sewed (run (on_to rings rule) line q) q u out out' ends ends₁) e₀ (rw f at w) in
        let few₁ : u.points < 2 ^ 64 = rw w₀.count (held_few b₀.points (length (run (on_to rings rule) line b₀).points)) in
        let z = sewed_both long longer (rw (begin_points p₀ s) few) (rw (begin_lines p₀ s) less) w₀ (sewed_finish out' few₁ x y) in
        let z₀ : Sewed (both (run (on_to rings rule) line b₀) (finish (run (on_to rings rule) line b₀).pen)) b₀ v out out' ends ends₂ = subst (λ (q : Pen). Sewed (both (run (on_to rings rule) line b₀) (finish q)) b₀ v out out' ends ends₂) w₀.pen z in
        rw (long_dense path h) (from_begin p₀ s z₀)

  -- ---- all paths

  module _ (g : Lattice) (len : Float) (paths breaks : List ℕ) (a k : ℕ) {s₀ s : Pen} {out₀ out : List Float} {ends₀ ends : List ℕ} {whole : List (List ℕ)} (w : Going (along_path rings rule g len) s₀ s out₀ out ends₀ ends (cut a (drop k breaks) paths) whole) where
    pub path_on : k < length breaks → {e : ℕ} → e ≡ get_or breaks k 0 → {r : Pen} {out' : List Float} {ends' : List ℕ} → Sewed (along_path rings rule g len (take (e - a) (drop a paths)) s) s r out out' ends ends' → Going (along_path rings rule g len) s₀ r out₀ out' ends₀ ends' (cut e (drop (k + 1) breaks) paths) whole
    unfolding cut
    path_on h {e} d x =
        let c : cut a (drop k breaks) paths ≡ take (e - a) (drop a paths) ∷ cut e (drop (k + 1) breaks) paths = rw (next breaks k 0 h, d) in
        going_next (along_path rings rule g len) (take (e - a) (drop a paths)) (cut e (drop (k + 1) breaks) paths) (going_at (along_path rings rule g len) c w) x

    pub path_last : length breaks ≤ k → Sewed (run (along_path rings rule g len) whole s₀) s₀ s out₀ out ends₀ ends
    unfolding cut
    path_last h =
        let c : cut a (drop k breaks) paths ≡ [] = rw (none breaks k h) in
        going_end (along_path rings rule g len) (going_at (along_path rings rule g len) c w)
