-- Each pass goes through the line's corners, bit for bit, the second and every other one backwards. Assumes nothing.
use Prim.Native.Nat.{ℕ, zero, suc, ◌+◌, ◌-◌, ◌%◌}
use Rattle.std.proofs.Common.{arith, ap, ◌∙◌}
use Rattle.std.specs.Prelude.{◌≡◌, Bool, drop, Float}
use Rattle.std.proofs.Math.Path.{refl}
use Rattle.std.proofs.Math.Bool.{true, false}
use mathlib.Core.List.{List, [], ◌∷◌, ◌++◌, append_assoc, reverse, reverse-cons, reverse-append}
use Rattle.std.proofs.Math.Dec.{eqb}
use Rattle.std.proofs.lemmas.List.{length-reverse, drop-append-le}
use Rattle.geom.specs.declared.point.P.{P}
use Rattle.polyline.specs.Line.{pieces_from, pieces, resample_keep_corners}
use Rattle.polyline.proofs.Corners.{kept_from, kept_corners, Through, pieces_through, corners_kept}
use Rattle.stroke.specs.Running.{base, one_pass, pass, passes_from, running}

through_itself : (l : List P) → Through l l
through_itself [] = refl
through_itself (p ∷ l) = ([], l, refl, through_itself l)

through_both : (ks ls xs ys : List P) → Through ks xs → Through ls ys → Through (ks ++ ls) (xs ++ ys)
through_both [] ls xs ys e u = rw e u
through_both (k ∷ ks) ls xs ys t u = (t.0, t.1 ++ ys, ap (λ (l : List P). l ++ ys) t.2 ∙ append_assoc t.0 (k ∷ t.1) ys, through_both ks ls t.1 ys t.3 u)

-- ---- backwards, without the point where it turns

turned_kept : (p k : P) (ks : List P) → drop 1 (reverse (p ∷ k ∷ ks)) ≡ drop 1 (reverse (k ∷ ks)) ++ (p ∷ [])
turned_kept p k ks = ap (drop 1) (reverse-cons p (k ∷ ks)) ∙ drop-append-le 1 (reverse (k ∷ ks)) (p ∷ []) (omega (arith, length-reverse (k ∷ ks)))

turned_sewn : (p k : P) (on rest : List P) → drop 1 (reverse (p ∷ (on ++ (k ∷ rest)))) ≡ drop 1 (reverse (k ∷ rest)) ++ (reverse on ++ (p ∷ []))
turned_sewn p k on rest =
    ap (drop 1) (reverse-cons p (on ++ (k ∷ rest)) ∙ ap (λ (l : List P). l ++ (p ∷ [])) (reverse-append on (k ∷ rest)) ∙ append_assoc (reverse (k ∷ rest)) (reverse on) (p ∷ []))
    ∙ drop-append-le 1 (reverse (k ∷ rest)) (reverse on ++ (p ∷ [])) (omega (arith, length-reverse (k ∷ rest)))

through_back : (p : P) (ks xs : List P) → Through ks xs → Through (drop 1 (reverse (p ∷ ks))) (drop 1 (reverse (p ∷ xs)))
through_back p [] xs e = rw e
through_back p (k ∷ ks) xs t =
    let on = t.0 in
    let rest = t.1 in
    rw (t.2, turned_kept p k ks, turned_sewn p k on rest) (through_both (drop 1 (reverse (k ∷ ks))) (p ∷ []) (drop 1 (reverse (k ∷ rest))) (reverse on ++ (p ∷ [])) (through_back k ks rest t.3) (reverse on, [], refl, refl))

-- ---- the passes

-- a line that goes through the corners ks after p is sewn on and back through them
module _ (p : P) (ks xs : List P) (t : Through ks xs) where
  pub pass_through : (back : Bool) → Through (pass (p ∷ ks) back) (pass (p ∷ xs) back)
  unfolding pass
  pass_through true = through_back p ks xs t
  pass_through false = t

  passes_through : (n left : ℕ) → Through (passes_from (p ∷ ks) n left) (passes_from (p ∷ xs) n left)
  unfolding passes_from
  passes_through n zero = refl
  passes_through n (suc left) =
      let b = eqb (n % 2) 1 in
      through_both (pass (p ∷ ks) b) (passes_from (p ∷ ks) (n + 1) left) (pass (p ∷ xs) b) (passes_from (p ∷ xs) (n + 1) left) (pass_through b) (passes_through (n + 1) left)

-- corners, on and back as often as there are passes
abbrev pub corners_sewn : List P → ℕ → List P
corners_sewn ks passes = ks ++ passes_from ks 1 (passes - 1)

line_through : (ps : List P) (len : Float) (passes : ℕ) → Through (corners_sewn (kept_corners ps) passes) (corners_sewn (resample_keep_corners ps len) passes)
unfolding kept_corners resample_keep_corners pieces
line_through [] len passes = through_itself (passes_from [] 1 (passes - 1))
line_through (p ∷ ps) len passes =
    let ks = kept_from p ps in
    let xs = pieces_from p ps len in
    through_both (p ∷ ks) (passes_from (p ∷ ks) 1 (passes - 1)) (p ∷ xs) (passes_from (p ∷ xs) 1 (passes - 1)) (corners_kept (p ∷ ps) len) (passes_through p ks xs (pieces_through p ps len) 1 (passes - 1))

-- running stitch goes through the kept corners of its line in each pass
pub corners_sewn_lem : (line : List P) (closed : Bool) (len : Float) (passes : ℕ) → Through (corners_sewn (kept_corners (base line closed)) passes) (running line closed len passes)
unfolding running one_pass
corners_sewn_lem line closed len passes = line_through (base line closed) len passes
