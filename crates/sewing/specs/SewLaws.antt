-- A section is sewn row by row, each from the end of the one before; a gap is its cuts and its end. Assumes nothing.
use Rattle.std.specs.Prelude.{ℕ, zero, suc, ◌+◌, ◌-◌, ◌*◌, ◌≤◌, ◌<◌, ◌≡◌, Bool, true, false, cond, ◌⊎◌, eqb, pos, length, Float}
use Rattle.std.proofs.Common.{arith, mul-pos, sym, ap, ◌∙◌, subst, inl, lit<, length-append, le-ltb}
use Rattle.std.proofs.Math.Path.{refl}
use Rattle.std.proofs.Math.Logic.{inr}
use mathlib.Core.List.{List, [], ◌∷◌, ◌++◌, map, reverse, reverse-cons, reverse-append, append_assoc, map-append}
use Rattle.std.proofs.Math.ListN.{length-map}
use Rattle.std.specs.Float.{nan, inf, fin}
use Rattle.std.specs.Float.Ieee.{add, sub, mul, div, neg, sum, round, to_unsigned, up, down, unlike}
use Rattle.std.specs.Float.Ieee.Fits.{up_pos, down_pos}
use Rattle.std.proofs.lemmas.Bool.{eqb-false}
use Rattle.numbers.specs.Num.{◌⊖◌, ◌⊘◌, real, zero64}
use Rattle.numbers.specs.Order.{negative}
use Rattle.numbers.specs.Root.{root}
use Rattle.numbers.specs.Whole.{whole_of, ceil}
use Rattle.numbers.specs.Rounded.{round_zero}
use Rattle.seqs.specs.Lists.{upto, each}
use Rattle.seqs.specs.Tests.{either}
use Rattle.seqs.specs.Upto.{upto_length}
use Rattle.geom.specs.declared.point.P.{P}
use Rattle.geom.specs.Point.{point, rotate, lerp, len, dist}
use Rattle.rules.specs.declared.Settings.{Settings}
use Rattle.rules.specs.declared.Piece.{Piece}
use Rattle.rules.specs.declared.Entry.{Entry}
use Rattle.geom.specs.Sewing.{flat}
use Rattle.rules.specs.Fill.{needles, row_points, parts, between, sew_from, sew, sewn}
use Rattle.geom.specs.Steps.{along}
use Rattle.geom.specs.SewingLaws.{flat_length, flat_append}
use Rattle.sewing.specs.Sewing.{forward, start_of, end_of, cuts, way, gap, cuts_for, sew_to, back, sewn_from}

-- ---- gaps

way_length : (p q : P) (n : ℕ) → length (way p q n) ≡ n
unfolding way
way_length p q n = length-map (upto 1 n) (λ i. lerp p q (real (pos i) ⊘ real (pos (n + 1)))) ∙ upto_length 1 n

pub gap_length : (p q : P) (n : ℕ) → length (gap p q n) ≡ n + 1
gap_length p q n = length-append (way p q n) (q ∷ []) ∙ ap (λ k. k + 1) (way_length p q n)

between_is : (g : Settings) (p q : P) → between g p q ≡ way p q (cuts g.len p q)
unfolding between parts along way cuts cuts_for dist len
between_is g p q = go (to_unsigned 64 (ceil (dist p q ⊘ g.len)))
  where
    go : (n : ℕ) → map (λ i. lerp p q (real (pos i) ⊘ real (pos n))) (upto 1 (n - 1)) ≡ map (λ i. lerp p q (real (pos i) ⊘ real (pos (n - 1 + 1)))) (upto 1 (n - 1))
    go zero = refl
    go (suc n) = let e : suc n - 1 + 1 ≡ suc n = omega arith in rw e

-- of the settings only len counts
pub sew_is : (g : Settings) (p : P) (qs : List P) → sew_from g p qs ≡ sew_to g.len p qs
unfolding sew_from sew_to
sew_is g p [] = refl
sew_is g p (q ∷ qs) = (λ i. between_is g p q i ++ (q ∷ sew_is g q qs i)) ∙ sym (append_assoc (way p q (cuts g.len p q)) (q ∷ []) (sew_to g.len q qs))

-- one more point is sewn
module _ (l : Float) where
  pub sew_next : (p q : P) (qs : List P) → sew_to l p (q ∷ qs) ≡ gap p q (cuts l p q) ++ sew_to l q qs
  unfolding sew_to
  sew_next p q qs = refl

  pub sew_count : (p q : P) (qs : List P) → length (sew_to l p (q ∷ qs)) ≡ cuts l p q + 1 + length (sew_to l q qs)
  sew_count p q qs = ap length (sew_next p q qs) ∙ length-append (gap p q (cuts l p q)) (sew_to l q qs) ∙ ap (λ k. k + length (sew_to l q qs)) (gap_length p q (cuts l p q))

  pub sew_none : (p : P) → sew_to l p [] ≡ []
  unfolding sew_to
  sew_none p = refl

  -- every target is a point at least
  pub sew_least : (p : P) (qs : List P) → length qs ≤ length (sew_to l p qs)
  sew_least p [] = omega arith
  sew_least p (q ∷ qs) = omega (arith, sew_least q qs, sew_count p q qs)

-- ---- turned back

module _ (c s : Float) where
  pub back_append : (l m : List P) → back c s (l ++ m) ≡ back c s l ++ back c s m
  unfolding back
  back_append l m = map-append (λ p. rotate p c s) l m

  pub back_length : (l : List P) → length (back c s l) ≡ length l
  unfolding back
  back_length l = length-map l (λ p. rotate p c s)

  pub flat_back : (l m : List P) → flat (back c s (l ++ m)) ≡ flat (back c s l) ++ flat (back c s m)
  flat_back l m = ap flat (back_append l m) ∙ flat_append (back c s l) (back c s m)

  pub flat_back_length : (l : List P) → length (flat (back c s l)) ≡ 2 * length l
  flat_back_length l = flat_length (back c s l) ∙ ap (λ k. 2 * k) (back_length l)

  pub flat_back_none : flat (back c s []) ≡ []
  unfolding flat back
  flat_back_none = refl

-- ---- rows

-- where the pen is after these points
after : P → List P → P
after p [] = p
after p (q ∷ qs) = after q qs

after_last : (p z : P) (l : List P) → after p (l ++ (z ∷ [])) ≡ z
unfolding after
after_last p z [] = refl
after_last p z (q ∷ l) = after_last q z l

sew_append : (g : Settings) (p : P) (a b : List P) → sew_from g p (a ++ b) ≡ sew_from g p a ++ sew_from g (after p a) b
unfolding sew_from after
sew_append g p [] b = refl
sew_append g p (q ∷ a) b = ap (λ l. between g p q ++ (q ∷ l)) (sew_append g q a b) ∙ sym (append_assoc (between g p q) (q ∷ sew_from g q a) (sew_from g (after q a) b))

-- a row's points: its start, more, its end
pub record Ended (p q : P) (l : List P) : Type 0 where
  pub inner : List P
  pub tail : l ≡ p ∷ (inner ++ (q ∷ []))

pub row_ended : (g : Settings) (stagger : ℕ) (e : Entry) → Ended (start_of e) (end_of e) (row_points g stagger e)
unfolding row_points
row_ended g stagger e = go (forward e)
  where
    p : Piece
    p = e.piece

    stitch : Float → P
    stitch x = point x p.y

    ns : List P
    ns = map stitch (needles g stagger p)

    all : map stitch (needles g stagger p ++ (p.xb ∷ [])) ≡ ns ++ (stitch p.xb ∷ [])
    all = map-append stitch (needles g stagger p) (p.xb ∷ [])

    go : (b : Bool) → Ended (point (cond b p.xa p.xb) p.y) (point (cond b p.xb p.xa) p.y) (cond b (map stitch (p.xa ∷ (needles g stagger p ++ (p.xb ∷ [])))) (reverse (map stitch (p.xa ∷ (needles g stagger p ++ (p.xb ∷ []))))))
    go true = record { inner = ns; tail = ap (λ l. stitch p.xa ∷ l) all }
    go false = record {
      inner = reverse ns;
      tail = reverse-cons (stitch p.xa) (map stitch (needles g stagger p ++ (p.xb ∷ []))) ∙ ap (λ l. reverse l ++ (stitch p.xa ∷ [])) all ∙ ap (λ l. l ++ (stitch p.xa ∷ [])) (reverse-append ns (stitch p.xb ∷ []));
    }

row_after : (g : Settings) (stagger : ℕ) (e : Entry) (pen : P) → after pen (row_points g stagger e) ≡ end_of e
unfolding after
row_after g stagger e pen = let r = row_ended g stagger e in ap (after pen) r.tail ∙ after_last (start_of e) (end_of e) r.inner

-- ---- the way from a point to itself is not cut: of no float is x - x anything but 0 or nan

self : (x : Float) → (x ⊖ x ≡ zero64) ⊎ (x ⊖ x ≡ nan)
unfolding sub add neg sum
self nan = inr refl
self (inf true) = inr refl
self (inf false) = inr refl
self (fin true m e) =
    let a = m * up e * down e in
    let z : a - a ≡ 0 = omega arith in
    inl (rw (le-ltb a a (omega arith), z) (round_zero false (down e * down e) (mul-pos (down_pos e) (down_pos e))))
self (fin false m e) =
    let a = m * up e * down e in
    let z : a - a ≡ 0 = omega arith in
    inl (rw (le-ltb a a (omega arith), z) (round_zero false (down e * down e) (mul-pos (down_pos e) (down_pos e))))

still : (p : P) → (dist p p ≡ zero64) ⊎ (dist p p ≡ nan)
unfolding dist len
still p = go (self p.x) (self p.y)
  where
    go : (p.x ⊖ p.x ≡ zero64) ⊎ (p.x ⊖ p.x ≡ nan) → (p.y ⊖ p.y ≡ zero64) ⊎ (p.y ⊖ p.y ≡ nan) → (dist p p ≡ zero64) ⊎ (dist p p ≡ nan)
    go (inl a) (inl b) = inl (rw (a, b) (unfold add sum mul round root in refl))
    go (inl a) (inr b) = inr (rw (a, b) (unfold add mul round root in refl))
    go (inr a) b = inr (rw a (unfold add mul root in refl))

parts_of_lem : Float → ℕ
parts_of_lem x = to_unsigned 64 (ceil x)

no_part : (s : Bool) → parts_of_lem (fin s 0 (pos 0)) ≡ 0
unfolding parts_of_lem to_unsigned ceil whole_of negative round
no_part true = refl
no_part false = refl

none_of_zero : (x : Float) → parts_of_lem (zero64 ⊘ x) ≡ 0
unfolding div parts_of_lem to_unsigned ceil whole_of
none_of_zero nan = refl
none_of_zero (inf true) = no_part true
none_of_zero (inf false) = no_part false
none_of_zero (fin t n d) = elim (either (eqb n 0)) [
  | inl e ↦ rw e
  | inr e ↦
      let z : 0 * down d ≡ 0 = omega arith in
      let k : 0 < n = omega (arith, eqb-false n 0 e) in
      rw (e, z, round_zero (unlike false t) (n * up d * 1) (mul-pos (mul-pos k (up_pos d)) (lit< tt))) (no_part (unlike false t))
]

pub cuts_self : (l : Float) (p : P) → cuts l p p ≡ 0
unfolding cuts cuts_for dist len div parts_of_lem to_unsigned ceil whole_of
cuts_self l p = elim (still p) [ inl e ↦ rw (e, none_of_zero l) | inr e ↦ rw e ]

-- ---- a section, row by row

pub sewn_none : (g : Settings) (stagger : ℕ) (pen : P) → sewn_from g stagger pen [] ≡ []
unfolding sewn_from sew_from back
sewn_none g stagger pen = refl

pub sewn_next : (g : Settings) (stagger : ℕ) (pen : P) (e : Entry) (es : List Entry) → sewn_from g stagger pen (e ∷ es) ≡ back g.cosine g.sine (sew_to g.len pen (row_points g stagger e)) ++ sewn_from g stagger (end_of e) es
unfolding sewn_from
sewn_next g stagger pen e es =
    let a = row_points g stagger e in
    let b = each (row_points g stagger) es in
    ap (back g.cosine g.sine) (sew_append g pen a b ∙ ap (λ p. sew_from g pen a ++ sew_from g p b) (row_after g stagger e pen))
    ∙ back_append g.cosine g.sine (sew_from g pen a) (sew_from g (end_of e) b)
    ∙ ap (λ l. back g.cosine g.sine l ++ back g.cosine g.sine (sew_from g (end_of e) b)) (sew_is g pen a)

-- the first point is where the pen starts, and sewing to it cuts nothing
sew_start : (g : Settings) (p : P) (l : List P) → sew g (p ∷ l) ≡ sew_from g p (p ∷ l)
unfolding sew sew_from way
sew_start g p l = sym (ap (λ m. m ++ (p ∷ sew_from g p l)) (between_is g p p ∙ ap (way p p) (cuts_self g.len p)))

pub sewn_start : (g : Settings) (stagger : ℕ) (e : Entry) (es : List Entry) → sewn g stagger (e ∷ es) ≡ sewn_from g stagger (start_of e) (e ∷ es)
unfolding sewn sewn_from back
sewn_start g stagger e es =
    let r = row_ended g stagger e in
    let b = each (row_points g stagger) es in
    ap (back g.cosine g.sine) (subst (λ l. sew g (l ++ b) ≡ sew_from g (start_of e) (l ++ b)) (sym r.tail) (sew_start g (start_of e) ((r.inner ++ (end_of e ∷ [])) ++ b)))

pub sewn_empty : (g : Settings) (stagger : ℕ) → sewn g stagger [] ≡ []
unfolding sewn sew
sewn_empty g stagger = refl
