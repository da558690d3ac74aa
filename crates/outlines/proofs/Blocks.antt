-- What the heights of an outline say of its blocks and parts, and how they are worked out. Assumes nothing.
use Prim.Native.Nat.{ℕ, zero, suc, ◌+◌, ◌-◌, ◌*◌, ◌/◌, ◌%◌, ◌≤◌, ◌<◌, min}
use native.Mathlib.Omega.{arith}
use native.Mathlib.Decide.{dec_le}
use mathlib.Core.Path.{◌≡◌, refl, subst, ◌∙◌}
use mathlib.Core.Bool.{Bool, true, false, cond, or-true}
use mathlib.Core.List.{List, [], ◌∷◌}
use lib.Dec.{eqb, ltb, nltb→le}
use lib.ListN.{length, take, drop, get_or, set, length-set, length-take, length-drop}
use lib.Seq.{get_or-take, get_or-drop, get_or-set_same, get_or-set_other}
use lib.IntN.{pos}
use lib.Ieee.{Float, nan, inf, fin, lt, le, eq}
use borrow.Author.Tests.{eq-eqb}
use Rattle.numbers.specs.Num.{zero64}
use Rattle.numbers.specs.Value.{Within}
use Rattle.numbers.specs.Laws as laws
use Rattle.numbers.specs.Laws.{holds}
use Rattle.seqs.specs.Tests.{clash, is_true, refute}
use Rattle.seqs.specs.Lists.{All}
use Rattle.seqs.specs.All.{all_at}
use Rattle.seqs.specs.Reads.{read_any}
use Rattle.geom.specs.declared.point.P.{P}
use Rattle.geom.specs.Point.{point}
use Rattle.geom.specs.Outline.{points}
use Rattle.geom.specs.OutlineLaws.{points_length, points_part}
use Rattle.outlines.specs.Runs.{chain, lows, one_side}
use Rattle.outlines.specs.Heights.{Left, Lies, LiesIn, Block, Beside, Heights, start_of, ring_at, RingHeights}
use Rattle.outlines.specs.Winding.{edges, ring}
use Rattle.outlines.specs.WindingLaws.{one_side_adds}
use Rattle.outlines.specs.LeftLaws.{chain_left}

-- ---- what is below two numbers, and what is above them

abbrev pub Lower : Float → Float → Float → Type 0
Lower lo y r = (z : Float) → lt z r ≡ true → (lt z lo ≡ true) × (le y z ≡ false)

abbrev pub Higher : Float → Float → Float → Type 0
Higher hi y r = (z : Float) → le r z ≡ true → (le hi z ≡ true) × (le y z ≡ true)

above : (z x y : Float) → lt z x ≡ true → le x y ≡ true → le y z ≡ false
above z x y p q = refute (le y z) (λ t. absurd (laws.le_lt_clash x z (laws.le_trans x y z (holds q) (holds t)) (holds p)))

pub lower_stays : (lo y : Float) → le lo y ≡ true → Lower lo y lo
lower_stays lo y h z p = (p, above z lo y p h)

pub lower_moves : (lo y : Float) → le y lo ≡ true → Lower lo y y
lower_moves lo y h z p = (is_true _ (laws.lt_le_trans z y lo (holds p) (holds h)), above z y y p (is_true _ (laws.le_refl y (laws.le_left y lo (holds h)))))

pub lower_nan : (lo y : Float) → Lower lo y nan
unfolding lt
lower_nan lo y nan p = clash p refl
lower_nan lo y (inf s) p = clash p refl
lower_nan lo y (fin s m e) p = clash p refl

nothing_over : (z : Float) → lt nan z ≡ false
unfolding lt
nothing_over z = refl

pub higher_stays : (hi y : Float) → le y hi ≡ true → Higher hi y hi
higher_stays hi y h z p = (p, is_true _ (laws.le_trans y hi z (holds h) (holds p)))

pub higher_moves : (hi y : Float) → le hi y ≡ true → Higher hi y y
higher_moves hi y h z p = (is_true _ (laws.le_trans hi y z (holds h) (holds p)), p)

pub higher_nan : (hi y : Float) → Higher hi y nan
unfolding le lt eq
higher_nan hi y z p = clash p refl

abbrev pub Righter : Float → Float → Float → Float → Type 0
Righter right x y r = (z : Float) → lt r z ≡ true → (lt right z ≡ true) × Left x y z

module _ (right x y : Float) (wide : Within 20 x) (tall : Within 20 y) where
  pub right_stays : le x right ≡ true → Righter right x y right
  right_stays h z p = (p, record { west = laws.lt_le x z (laws.le_lt_trans x right z (holds h) (holds p)); wide = wide; tall = tall })

  pub right_moves : le right x ≡ true → Righter right x y x
  right_moves h z p = (is_true _ (laws.le_lt_trans right x z (holds h) (holds p)), record { west = laws.lt_le x z (holds p); wide = wide; tall = tall })

pub right_nan : (right x y : Float) → Righter right x y nan
right_nan right x y z p = clash (p) (nothing_over z)

-- ---- the heights of some corners: those that bound the rest and are no tighter bound all

abbrev pub Tried : List P → List P → Float → Float → Float → Type 0
Tried l rest lo hi right = (lo' hi' right' : Float) → ((z : Float) → lt z lo' ≡ true → lt z lo ≡ true) → ((z : Float) → le hi' z ≡ true → le hi z ≡ true) → ((z : Float) → lt right' z ≡ true → lt right z ≡ true) → All (Lies lo' hi' right') rest → All (Lies lo' hi' right') l

pub tried_start : (l : List P) (lo hi right : Float) → Tried l l lo hi right
tried_start l lo hi right lo' hi' right' u o w h = h

pub tried_next : (l rest : List P) (a : P) (lo hi right lo₁ hi₁ right₁ : Float) → Lower lo a.y lo₁ → Higher hi a.y hi₁ → Righter right a.x a.y right₁ → Tried l (a ∷ rest) lo hi right → Tried l rest lo₁ hi₁ right₁
tried_next l rest a lo hi right lo₁ hi₁ right₁ p q r t lo' hi' right' u o w h =
    t lo' hi' right' (λ z k. (p z (u z k)).0) (λ z k. (q z (o z k)).0) (λ z k. (r z (w z k)).0)
    (record { high = λ z k. (p z (u z k)).1; low = λ z k. (q z (o z k)).1; left = λ z k. (r z (w z k)).1 }, h)

pub tried_end : (l : List P) (lo hi right : Float) → Tried l [] lo hi right → All (Lies lo hi right) l
tried_end l lo hi right t = t lo hi right (λ z k. k) (λ z k. k) (λ z k. k) tt

-- ---- corners of a block that lies at one side of a point

module _ (lo hi right : Float) (p : P) where
  abbrev AllLie : List P → Type 0
  AllLie l = (k : ℕ) → k < length l → Lies lo hi right (get_or l k (point nan nan))

  high_lows : (l : List P) → AllLie l → lt p.y lo ≡ true → lows p.y l ≡ 0
  unfolding lows
  high_lows [] h q = refl
  high_lows (a ∷ l) h q = rw ((h 0 (omega arith)).high p.y q) (omega (arith, high_lows l (λ k r. h (suc k) (omega arith)) q))

  low_lows : (l : List P) → AllLie l → le hi p.y ≡ true → lows p.y l ≡ length l
  unfolding lows
  low_lows [] h q = refl
  low_lows (a ∷ l) h q = rw ((h 0 (omega arith)).low p.y q) (omega (arith, low_lows l (λ k r. h (suc k) (omega arith)) q))

  all_left : (l : List P) → AllLie l → lt right p.x ≡ true → All (λ a. Left a.x a.y p.x) l
  all_left [] h q = tt
  all_left (a ∷ l) h q = ((h 0 (omega arith)).left p.x q, all_left l (λ k r. h (suc k) (omega arith)) q)

module _ (t : List Float) (b : ℕ) (p : P) where
  abbrev lo : Float
  lo = get_or t (3 * b) nan

  abbrev hi : Float
  hi = get_or t (3 * b + 1) nan

  abbrev right : Float
  right = get_or t (3 * b + 2) nan

  pub beside_above : lt p.y lo ≡ true → Beside t b p
  beside_above q l h = one_side_adds p l (unfold one_side in rw (eq-eqb _ _ (high_lows lo hi right p l h q)))

  pub beside_below : le hi p.y ≡ true → Beside t b p
  beside_below q l h = one_side_adds p l (unfold one_side in rw (eq-eqb _ _ (low_lows lo hi right p l h q)) (or-true (eqb (lows p.y l) 0)))

  pub beside_left : lt right p.x ≡ true → Within 20 p.x → Within 20 p.y → Beside t b p
  beside_left q wide tall l h = chain_left p l wide tall (all_left lo hi right p l h q)

-- a ring that p lies beside: its last corner comes first
pub ring_beside : (t : List Float) (b : ℕ) (p : P) (l : List P) → Beside t b p → 3 * b + 2 < length t → Block b l t → ring p l ≡ pos 0
unfolding ring
ring_beside t b p l f s h = go (ltb (length l) 3) refl
  where
    z : P
    z = point zero64 zero64

    all : 0 < length l → (k : ℕ) → k < length (get_or l (length l - 1) z ∷ l) → LiesIn t b (get_or (get_or l (length l - 1) z ∷ l) k (point nan nan))
    all n zero q = subst (LiesIn t b) (read_any l (length l - 1) (point nan nan) z (omega arith)) (h (length l - 1) s (omega arith))
    all n (suc k) q = h k s (omega arith)

    go : (c : Bool) → ltb (length l) 3 ≡ c → cond c (pos 0) (edges p (get_or l (length l - 1) z) l) ≡ pos 0
    go true e = refl
    go false e = unfold chain in f (get_or l (length l - 1) z ∷ l) (all (omega (arith, nltb→le (length l) 3 (laws.fails e))))

-- ---- parts of an outline

-- corner k of the part from a to e is corner a + k
part_at : (a e : ℕ) (l : List P) (k : ℕ) → k < length (take (e - a) (drop a l)) → (get_or (take (e - a) (drop a l)) k (point nan nan) ≡ get_or l (a + k) (point nan nan)) × (a + k < length l) × (k < e - a)
part_at a e l k h =
    let n : k < e - a = omega (arith, length-take (e - a) (drop a l)) in
    (get_or-take (e - a) (drop a l) k (point nan nan) n ∙ get_or-drop a l k (point nan nan), omega (arith, length-take (e - a) (drop a l), length-drop a l), n)

-- the corners from k to e of a ring, within block b
pub part_block : (a b k e : ℕ) (l : List Float) (t : List Float) → Heights a (points l) t → 8 * b ≤ a + k → a + e ≤ 8 * b + 9 → b < 128 → Block b (points (take (2 * e - 2 * k) (drop (2 * k) l))) t
part_block a b k e l t h p q few = rw (points_part k e l) (λ j s n. let w = part_at k e (points l) j n in rw w.0 (h b (k + j) few s w.1 (omega arith) (omega (arith, w.2))))

-- a ring of the outline
pub ring_heights : (a e : ℕ) (l : List Float) (t : List Float) → Heights 0 (points l) t → Heights a (points (take (2 * e - 2 * a) (drop (2 * a) l))) t
ring_heights a e l t h = rw (points_part a e l) (λ b k few s n p q. let w = part_at a e (points l) k n in rw w.0 (h b (a + k) few s w.1 (omega arith) (omega arith)))

-- the numbers of ring k, of its corners as they are lent
pub ring_block : (k : ℕ) (l : List Float) (ends : List ℕ) (t : List Float) → RingHeights (points l) ends t → k < length ends → Block (128 + k) (points (take (2 * get_or ends k 0 - 2 * start_of ends k) (drop (2 * start_of ends k) l))) t
ring_block k l ends t h n = rw (points_part (start_of ends k) (get_or ends k 0) l) (h k n)

pub no_heights : (l : List P) → Heights 0 l []
no_heights l b k few s n p q = absurd (omega arith)

pub no_rings : (l : List P) (ends : List ℕ) → RingHeights l ends []
no_rings l ends k n j s q = absurd (omega arith)

-- ---- the heights up to corner m, m a multiple of eight

abbrev pub Known : ℕ → List P → List Float → Type 0
Known m l t = (b k : ℕ) → 8 * b < m → b < 128 → 3 * b + 2 < length t → k < length l → 8 * b ≤ k → k ≤ 8 * b + 8 → LiesIn t b (get_or l k (point nan nan))

pub known_all : (m : ℕ) (l : List P) (t : List Float) → Known m l t → length l ≤ m → Heights 0 l t
known_all m l t h n b k few s j p q = h b k (omega arith) few s j (omega arith) (omega arith)

pub known_full : (m : ℕ) (l : List P) (t : List Float) → Known m l t → m % 8 ≡ 0 → length t ≤ 3 * (m / 8) + 2 → Heights 0 l t
known_full m l t h e n b k few s j p q = h b k (omega arith) few s j (omega arith) (omega arith)

pub known_most : (m : ℕ) (l : List P) (t : List Float) → Known m l t → m % 8 ≡ 0 → 384 ≤ 3 * (m / 8) → Heights 0 l t
known_most m l t h e n b k few s j p q = h b k (omega arith) few s j (omega arith) (omega arith)

-- three numbers from i on
abbrev pub three : List Float → ℕ → Float → Float → Float → List Float
three t i lo hi right = set (set (set t i lo) (i + 1) hi) (i + 2) right

module _ (t : List Float) (i : ℕ) (lo hi right : Float) where
  pub three_size : length (three t i lo hi right) ≡ length t
  three_size = length-set (set (set t i lo) (i + 1) hi) (i + 2) right ∙ length-set (set t i lo) (i + 1) hi ∙ length-set t i lo

  three_kept : (j : ℕ) → j < i → get_or (three t i lo hi right) j nan ≡ get_or t j nan
  three_kept j p = get_or-set_other (set (set t i lo) (i + 1) hi) (i + 2) j right nan (λ q. omega (arith, q)) ∙ get_or-set_other (set t i lo) (i + 1) j hi nan (λ q. omega (arith, q)) ∙ get_or-set_other t i j lo nan (λ q. omega (arith, q))

  module _ (room : i + 2 < length t) where
    three_first : get_or (three t i lo hi right) i nan ≡ lo
    three_first = get_or-set_other (set (set t i lo) (i + 1) hi) (i + 2) i right nan (λ q. omega (arith, q)) ∙ get_or-set_other (set t i lo) (i + 1) i hi nan (λ q. omega (arith, q)) ∙ get_or-set_same t i lo nan (omega arith)

    three_second : get_or (three t i lo hi right) (i + 1) nan ≡ hi
    three_second = get_or-set_other (set (set t i lo) (i + 1) hi) (i + 2) (i + 1) right nan (λ q. omega (arith, q)) ∙ get_or-set_same (set t i lo) (i + 1) hi nan (omega (arith, length-set t i lo))

    three_third : get_or (three t i lo hi right) (i + 2) nan ≡ right
    three_third = get_or-set_same (set (set t i lo) (i + 1) hi) (i + 2) right nan (omega (arith, length-set t i lo, length-set (set t i lo) (i + 1) hi))

-- one block more: its corners go from m to e
module _ (m e : ℕ) (l : List Float) (t : List Float) (lo hi right : Float) (even : m % 8 ≡ 0) (room : 3 * (m / 8) + 2 < length t) (end : e ≡ min (m + 9) (length l / 2))
    (h : All (Lies lo hi right) (points (take (2 * e - 2 * m) (drop (2 * m) l)))) where
  abbrev after : List Float
  after = three t (3 * (m / 8)) lo hi right

  newest : (k : ℕ) → k < length (points l) → m ≤ k → k ≤ m + 8 → Lies lo hi right (get_or (points l) k (point nan nan))
  newest k n p q =
      let part = take (e - m) (drop m (points l)) in
      let j : k - m < length part = omega (arith, length-take (e - m) (drop m (points l)), length-drop m (points l), points_length l) in
      let w = part_at m e (points l) (k - m) j in
      let x : m + (k - m) ≡ k = omega arith in
      let g = all_at (Lies lo hi right) part (k - m) (point nan nan) j (rw (points_part m e l) at h) in
      rw (w.0, x) at g

  pub known_next : Known m (points l) t → Known (m + 8) (points l) after
  known_next g b k u few s n p q = go (dec_le m (8 * b))
    where
      go : Dec (m ≤ 8 * b) → LiesIn after b (get_or (points l) k (point nan nan))
      go (yes z) =
          let x : 3 * b ≡ 3 * (m / 8) = omega arith in
          rw (x, three_first t (3 * (m / 8)) lo hi right room, three_second t (3 * (m / 8)) lo hi right room, three_third t (3 * (m / 8)) lo hi right room) (newest k n (omega arith) (omega arith))
      go (no z) =
          let kept = three_kept t (3 * (m / 8)) lo hi right in
          rw (kept (3 * b) (omega arith), kept (3 * b + 1) (omega arith), kept (3 * b + 2) (omega arith)) (g b k (omega arith) few (omega (arith, three_size t (3 * (m / 8)) lo hi right)) n p q)

-- ---- the rings up to ring m

abbrev pub KnownRings : ℕ → List P → List ℕ → List Float → Type 0
KnownRings m l ends t = (k : ℕ) → k < m → k < length ends → Block (128 + k) (ring_at l ends k) t

pub rings_all : (m : ℕ) (l : List P) (ends : List ℕ) (t : List Float) → KnownRings m l ends t → length ends ≤ m → RingHeights l ends t
rings_all m l ends t h n k q = h k (omega arith) q

pub rings_full : (m : ℕ) (l : List P) (ends : List ℕ) (t : List Float) → KnownRings m l ends t → length t ≤ 3 * (128 + m) + 2 → RingHeights l ends t
rings_full m l ends t h n k q j s r = h k (omega arith) q j s r

-- numbers from i on change nothing of what is said by those before
kept_lies : (t : List Float) (i : ℕ) (lo hi right : Float) (b : ℕ) (a : P) → 3 * b + 2 < i → LiesIn t b a → LiesIn (three t i lo hi right) b a
kept_lies t i lo hi right b a n h =
    let kept = three_kept t i lo hi right in
    rw (kept (3 * b) (omega arith), kept (3 * b + 1) (omega arith), kept (3 * b + 2) n) h

module _ (m : ℕ) (l : List Float) (ends : List ℕ) (t : List Float) (lo hi right : Float) (room : 3 * (128 + m) + 2 < length t) where
  abbrev with_ring : List Float
  with_ring = three t (3 * (128 + m)) lo hi right

  pub heights_kept : Heights 0 (points l) t → Heights 0 (points l) with_ring
  heights_kept h b k few s n p q = kept_lies t (3 * (128 + m)) lo hi right b _ (omega arith) (h b k few (omega (arith, three_size t (3 * (128 + m)) lo hi right)) n p q)

  pub rings_next : All (Lies lo hi right) (points (take (2 * get_or ends m 0 - 2 * start_of ends m) (drop (2 * start_of ends m) l))) → KnownRings m (points l) ends t → KnownRings (m + 1) (points l) ends with_ring
  rings_next h g k u q j s n = go (dec_le m k)
    where
      go : Dec (m ≤ k) → LiesIn with_ring (128 + k) (get_or (ring_at (points l) ends k) j (point nan nan))
      go (yes z) =
          let e : k ≡ m = omega arith in
          let x = all_at (Lies lo hi right) (ring_at (points l) ends m) j (point nan nan) (rw e at n) (rw (points_part (start_of ends m) (get_or ends m 0) l) at h) in
          rw (e, three_first t (3 * (128 + m)) lo hi right room, three_second t (3 * (128 + m)) lo hi right room, three_third t (3 * (128 + m)) lo hi right room) x
      go (no z) = kept_lies t (3 * (128 + m)) lo hi right (128 + k) _ (omega arith) (g k (omega arith) q j (omega (arith, three_size t (3 * (128 + m)) lo hi right)) n)

pub start_next : (ends : List ℕ) (k : ℕ) → get_or ends k 0 ≡ start_of ends (k + 1)
start_next ends k = let e : k + 1 ≡ suc k = omega arith in rw e
