-- A row's points are its targets by index. Assumes nothing.
use Prim.Native.Nat.{ℕ, zero, suc, ◌+◌, ◌-◌, ◌≤◌, ◌<◌}
use native.Mathlib.Omega.{arith}
use Rattle.std.specs.Prelude.{◌≡◌, refl, Bool, true, false, cond, pos, ◌+ℤ◌, length, Float}
use Rattle.std.proofs.Common.{sym, ap, ◌∙◌, length-append}
use mathlib.Core.List.{List, [], ◌∷◌, ◌++◌, map, reverse, reverse-cons, reverse-append, map-append, map-map}
use Rattle.std.proofs.Math.ListN.{length-map}
use Rattle.std.proofs.lemmas.List.{length-reverse}
use borrow.Author.Tests.{lt-ltb, le-ltb, ne_eqb}
use Rattle.numbers.specs.Num.{◌⊕◌, ◌⊗◌, real}
use Rattle.seqs.specs.Lists.{upto}
use Rattle.seqs.specs.Upto.{upto_append, upto_length, upto_next, upto_none}
use Rattle.seqs.specs.Capped.{capped_in}
use Rattle.geom.specs.declared.point.P.{P}
use Rattle.geom.specs.Point.{point}
use Rattle.rules.specs.declared.Settings.{Settings}
use Rattle.rules.specs.declared.Piece.{Piece}
use Rattle.rules.specs.declared.Entry.{Entry}
use Rattle.rules.specs.Fill.{how_many, offset, through, needles, row_points, m0, m1, min_end as fillEnd}
use Rattle.sewing.specs.declared.row.Row.{Row}
use Rattle.sewing.specs.Sewing.{most, forward, min_end, lowest, highest, row_by, row_of, needle, target, targets}

-- ---- lists

module _ {A : Type 0} where
  -- two counts, place by place
  pub map_upto : (f g : ℕ → A) (i j n : ℕ) → ((t : ℕ) → t < n → f (i + t) ≡ g (j + t)) → map f (upto i n) ≡ map g (upto j n)
  map_upto f g i j zero h = refl
  map_upto f g i j (suc n) h =
      let a : i + 0 ≡ i = omega arith in
      let b : j + 0 ≡ j = omega arith in
      let z : f i ≡ g j = rw (a, b) at (h 0 (omega arith)) in
      let r = map_upto f g (i + 1) (j + 1) n (λ t k. let c : i + 1 + t ≡ i + suc t = omega arith in let d : j + 1 + t ≡ j + suc t = omega arith in rw (c, d) (h (suc t) (omega arith))) in
      λ p. z p ∷ r p

  -- one of them from the last on
  map_back : (f g : ℕ → A) (i j n : ℕ) → ((t : ℕ) → t < n → f (i + t) ≡ g (j + (n - 1 - t))) → map f (upto i n) ≡ reverse (map g (upto j n))
  map_back f g i j zero h = refl
  map_back f g i j (suc n) h =
      let a : suc n ≡ n + 1 = omega arith in
      let z : f (i + n) ≡ g j = let c : j + (suc n - 1 - n) ≡ j = omega arith in rw c at (h n (omega arith)) in
      let r = map_back f g i (j + 1) n (λ t k. let c : j + 1 + (n - 1 - t) ≡ j + (suc n - 1 - t) = omega arith in rw c (h t (omega arith))) in
      ap (λ m. map f (upto i m)) a ∙ ap (map f) (upto_append i n 1) ∙ map-append f (upto i n) ((i + n) ∷ []) ∙ (λ p. r p ++ (z p ∷ [])) ∙ sym (reverse-cons (g j) (map g (upto (j + 1) n)))

-- ---- a row

module _ (len : Float) (w : Row) where
  at : ℕ → P
  at r = point (target len w r) w.y

  pub targets_next : (r m : ℕ) → r < m → targets len w r (m - r) ≡ point (target len w r) w.y ∷ targets len w (r + 1) (m - (r + 1))
  unfolding targets
  targets_next r m h = rw (upto_next m r h)

  pub targets_none : (r m : ℕ) → m ≤ r → targets len w r (m - r) ≡ []
  unfolding targets
  targets_none r m h = rw (upto_none m r h)

  pub targets_length : (r left : ℕ) → length (targets len w r left) ≡ left
  unfolding targets
  targets_length r left = length-map (upto r left) (λ i. point (target len w i) w.y) ∙ upto_length r left

  -- the first, those between, and the last
  parts : targets len w 0 (w.n + 2) ≡ point w.first w.y ∷ (map at (upto 1 w.n) ++ (point w.last w.y ∷ []))
  unfolding targets target at
  parts =
      let n = w.n in
      let a : n + 2 ≡ suc (n + 1) = omega arith in
      let b : 0 + 1 ≡ 1 = omega arith in
      let l : target len w (1 + n) ≡ w.last = rw (ne_eqb (1 + n) 0 (λ z. omega arith), lt-ltb n (1 + n) (omega arith)) in
      rw (a, b) (ap (λ m. point w.first w.y ∷ m) (ap (map at) (upto_append 1 n 1) ∙ map-append at (upto 1 n) ((1 + n) ∷ []) ∙ rw l))

  between_at : (t : ℕ) → t < w.n → target len w (1 + t) ≡ needle len w (cond w.forward t (w.n - 1 - t))
  unfolding target
  between_at t h =
      let a : 1 + t - 1 ≡ t = omega arith in
      let b : w.n - (1 + t) ≡ w.n - 1 - t = omega arith in
      rw (ne_eqb (1 + t) 0 (λ z. omega arith), le-ltb w.n (1 + t) (omega arith), a, b)

-- the needle points by index
pub needles_are : (g : Settings) (stagger : ℕ) (p : Piece) → needles g stagger p ≡ map (λ i. offset g stagger p.k ⊕ real (lowest g.len (min_end g.len) (offset g stagger p.k) p.xa +ℤ pos i) ⊗ g.len) (upto 0 (how_many (lowest g.len (min_end g.len) (offset g stagger p.k) p.xa) (highest g.len (min_end g.len) (offset g stagger p.k) p.xb)))
unfolding needles through m0 m1 fillEnd
needles_are g stagger p =
    let off = offset g stagger p.k in
    let from = lowest g.len (min_end g.len) off p.xa in
    map-map (λ m. off ⊕ real m ⊗ g.len) (λ i. from +ℤ pos i) (upto 0 (how_many from (highest g.len (min_end g.len) off p.xb)))

pub needles_length : (g : Settings) (stagger : ℕ) (p : Piece) → length (needles g stagger p) ≡ how_many (lowest g.len (min_end g.len) (offset g stagger p.k) p.xa) (highest g.len (min_end g.len) (offset g stagger p.k) p.xb)
needles_length g stagger p = rw (needles_are g stagger p, length-map, upto_length)

pub row_length : (g : Settings) (stagger : ℕ) (e : Entry) → length (row_points g stagger e) ≡ length (needles g stagger e.piece) + 2
unfolding row_points
row_length g stagger e = go (forward e)
  where
    ps : List P
    ps = map (λ x. point x e.piece.y) (e.piece.xa ∷ (needles g stagger e.piece ++ (e.piece.xb ∷ [])))

    size : length ps ≡ length (needles g stagger e.piece) + 2
    size = length-map (e.piece.xa ∷ (needles g stagger e.piece ++ (e.piece.xb ∷ []))) (λ x. point x e.piece.y) ∙ omega (arith, length-append (needles g stagger e.piece) (e.piece.xb ∷ []))

    go : (b : Bool) → length (cond b ps (reverse ps)) ≡ length (needles g stagger e.piece) + 2
    go true = size
    go false = length-reverse ps ∙ size

pub row_points_lem : (g : Settings) (stagger : ℕ) (e : Entry) → length (needles g stagger e.piece) ≤ most → targets g.len (row_of g stagger e) 0 ((row_of g stagger e).n + 2) ≡ row_points g stagger e
unfolding row_points row_of row_by at
row_points_lem g stagger e h = parts g.len w ∙ go (forward e) (between_at g.len w)
  where
    p : Piece
    p = e.piece

    w : Row
    w = row_of g stagger e

    stitch : Float → P
    stitch x = point x p.y

    N : ℕ
    N = how_many (lowest g.len (min_end g.len) w.off p.xa) (highest g.len (min_end g.len) w.off p.xb)

    n_is : w.n ≡ N
    n_is = capped_in most N (omega (arith, needles_length g stagger p))

    several : List P
    several = map (λ i. stitch (needle g.len w i)) (upto 0 w.n)

    inner : map stitch (needles g stagger p) ≡ several
    inner = ap (map stitch) (needles_are g stagger p) ∙ map-map stitch (needle g.len w) (upto 0 N) ∙ ap (λ n. map (λ i. stitch (needle g.len w i)) (upto 0 n)) (sym n_is)

    all : map stitch (needles g stagger p ++ (p.xb ∷ [])) ≡ several ++ (stitch p.xb ∷ [])
    all = map-append stitch (needles g stagger p) (p.xb ∷ []) ∙ ap (λ l. l ++ (stitch p.xb ∷ [])) inner

    go : (b : Bool) → ((t : ℕ) → t < w.n → target g.len w (1 + t) ≡ needle g.len w (cond b t (w.n - 1 - t)))
        → point (cond b p.xa p.xb) p.y ∷ (map (at g.len w) (upto 1 w.n) ++ (point (cond b p.xb p.xa) p.y ∷ []))
        ≡ cond b (map stitch (p.xa ∷ (needles g stagger p ++ (p.xb ∷ [])))) (reverse (map stitch (p.xa ∷ (needles g stagger p ++ (p.xb ∷ [])))))
    go true k =
        ap (λ l. stitch p.xa ∷ l)
        (ap (λ l. l ++ (stitch p.xb ∷ [])) (map_upto (at g.len w) (λ i. stitch (needle g.len w i)) 1 0 w.n (λ t l. let z : 0 + t ≡ t = omega arith in rw z (ap stitch (k t l)))) ∙ sym all)
    go false k =
        let z = map_back (at g.len w) (λ i. stitch (needle g.len w i)) 1 0 w.n (λ t l. let z : 0 + (w.n - 1 - t) ≡ w.n - 1 - t = omega arith in rw z (ap stitch (k t l))) in
        ap (λ l. stitch p.xb ∷ (l ++ (stitch p.xa ∷ []))) z
        ∙ ap (λ l. l ++ (stitch p.xa ∷ [])) (sym (reverse-append several (stitch p.xb ∷ [])) ∙ ap reverse (sym all))
        ∙ sym (reverse-cons (stitch p.xa) (map stitch (needles g stagger p ++ (p.xb ∷ []))))
