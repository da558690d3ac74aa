-- Digits from the back, and words one behind the other.
use mathlib.Core.Path.{◌≡◌, refl, sym, ap, ◌∙◌}
use mathlib.Core.List.{List, [], ◌∷◌, ◌++◌, append_assoc}
use Prim.Native.Nat.{ℕ, zero, suc, ◌+◌, ◌-◌, ◌/◌, ◌%◌, ◌≤◌, ◌<◌}
use native.Mathlib.Nat.{lt_irrefl}
use native.Mathlib.Omega.{arith}
use lib.ListN.{length, take, drop, set, length-append, length-set, take-append-drop}
use lib.Seq.{drop-set-lt, get_or-set_same, take-set-le}
use borrow.Author.Tests.{lt-ltb, le-ltb}
use lib.Ieee.{Float, binary64, to_bits}
use Rattle.seqs.specs.Slices.{Put}
use Rattle.seqs.specs.Front.{front_from, front_push, front_whole, front_end, next}
use Rattle.seqs.specs.Put.{put_then}
use Rattle.seqs.specs.Wrote.{head_length}
use Rattle.seqs.specs.Reads.{take_on}
use Rattle.jobs.specs.Text.{glyph, digits, places, decimal, hex, head_line, point_line}

-- ---- how many digits

pub places_one : (k n : ℕ) → n < 10 → places k n ≡ 1
unfolding places
places_one zero n h = refl
places_one (suc k) n h = rw (lt-ltb n 10 h)

pub places_turn : (k n : ℕ) → 0 < k → 10 ≤ n → places k n ≡ places (k - 1) (n / 10) + 1
unfolding places
places_turn zero n p h = absurd (lt_irrefl 0 p)
places_turn (suc k) n p h = let e : suc k - 1 ≡ k = omega arith in rw (le-ltb n 10 h, e)

pub places_last : (n : ℕ) → places 0 n ≡ 1
unfolding places
places_last n = refl

pub digits_length : (b k n : ℕ) → length (digits b k n) ≡ k
unfolding digits
digits_length b zero n = refl
digits_length b (suc k) n = length-append (digits b k (n / b)) (glyph (n % b) ∷ []) ∙ omega (arith, digits_length b k (n / b))

-- ---- digits, the last i of them still to be written before place at + i

pub record Back (d₀ d : List ℕ) (at i : ℕ) (rest whole : List ℕ) : Type 0 where
  pub size : length d ≡ length d₀
  pub kept : take (at + i) d ≡ take (at + i) d₀
  pub tail : rest ++ drop (at + i) d ≡ whole ++ drop (at + length whole) d₀

pub back_start : (d m : List ℕ) (at k : ℕ) → length m ≡ k → Back d d at k m m
back_start d m at k e = record { size = refl; kept = refl; tail = rw e }

pub back_turn : {d₀ d : List ℕ} {at : ℕ} {whole : List ℕ} (b n i : ℕ) → 0 < i → at + i ≤ length d₀ → Back d₀ d at i (digits b i n) whole
    → Back d₀ (set d (at + (i - 1)) (glyph (n % b))) at (i - 1) (digits b (i - 1) (n / b)) whole
unfolding digits
back_turn b n zero p h r = absurd (lt_irrefl 0 p)
back_turn {d₀} {d} {at} {whole} b n (suc i) p h r =
    let e : suc i - 1 ≡ i = omega arith in
    let g = glyph (n % b) in
    let l : at + i < length d = omega (arith, r.size) in
    let l' : at + i < length (set d (at + i) g) = rw length-set l in
    let j : at + i + 1 ≡ at + suc i = omega arith in
    let c : drop (at + i) (set d (at + i) g) ≡ g ∷ drop (at + suc i) d =
    next (set d (at + i) g) (at + i) 0 l' ∙ rw (get_or-set_same d (at + i) g 0 l, drop-set-lt (at + i + 1) d (at + i) g (omega arith), j) in
    rw e (record {
      size = length-set d (at + i) g ∙ r.size;
      kept = take-set-le (at + i) d (at + i) g (omega arith) ∙ take_on d d₀ (at + i) (at + suc i) (omega arith) r.kept;
      tail = rw c (sym (append_assoc (digits b i (n / b)) (g ∷ []) (drop (at + suc i) d)) ∙ r.tail);
    })

pub back_end : {d₀ d : List ℕ} {at : ℕ} {whole : List ℕ} (b n : ℕ) → at ≤ length d₀ → Back d₀ d at 0 (digits b 0 n) whole → Put d₀ d at whole
unfolding digits
back_end {d₀} {d} {at} {whole} b n h r =
    let z : at + 0 ≡ at = omega arith in
    let k : take at d ≡ take at d₀ = rw z at r.kept in
    let t : drop at d ≡ whole ++ drop (at + length whole) d₀ = rw z at r.tail in
    sym (take-append-drop at d) ∙ rw (k, t, head_length d₀ whole at h) (sym (append_assoc (take at d₀) whole (drop (at + length whole) d₀)))

-- ---- words

-- a byte behind what was put
pub put_last : (d d' : List ℕ) (at : ℕ) (m : List ℕ) (j v : ℕ) → j ≡ at + length m → j < length d → Put d d' at m → Put d (set d' j v) at (m ++ v ∷ [])
put_last d d' at m j v e h p =
    let f = front_whole m (v ∷ []) d' (front_from d (m ++ v ∷ []) at (omega arith)) (omega arith) p in
    rw e (front_end (front_push f (omega (arith, f.len))))

-- a line of three words, one behind the other
three : (d₀ d₁ d₂ d₃ line u v w : List ℕ) (k a b r : ℕ) → line ≡ u ++ (v ++ w) → a ≡ k + length u → b ≡ a + length v → r ≡ b + length w → r ≤ length d₀
    → Put d₀ d₁ k u → Put d₁ d₂ a v → Put d₂ d₃ b w → Put d₀ d₃ k line × (r ≡ k + length line)
three d₀ d₁ d₂ d₃ line u v w k a b r e ea eb er h p₁ p₂ p₃ =
    let l = length-append u v in
    let two = put_then d₀ d₁ d₂ u v k a (omega arith) p₁ ea p₂ in
    let all = put_then d₀ d₂ d₃ (u ++ v) w k b (omega arith) two (omega arith) p₃ in
    (rw (e, ← append_assoc u v w) all, omega (arith, ap length e, length-append u (v ++ w), length-append v w))

-- a number's digits, and a float's
pub decimal_is : (n k : ℕ) → k ≡ places 19 n → digits 10 k n ≡ decimal n
unfolding decimal
decimal_is n k e = ap (λ (j : ℕ). digits 10 j n) e

pub hex_is : (x : Float) (b : ℕ) → b ≡ to_bits binary64 x → digits 16 16 b ≡ hex x
unfolding hex
hex_is x b e = ap (digits 16 16) e

hex_length : (x : Float) → length (hex x) ≡ 16
unfolding hex
hex_length x = digits_length 16 16 (to_bits binary64 x)

-- a word and the byte behind it
pub longer : (w : List ℕ) (k v : ℕ) → length w ≡ k → length (w ++ v ∷ []) ≡ k + 1
longer w k v e = length-append w (v ∷ []) ∙ omega (arith, e)

head_words : (x y z : ℕ) → head_line x y z ≡ (decimal x ++ 32 ∷ []) ++ ((decimal y ++ 32 ∷ []) ++ (decimal z ++ 10 ∷ []))
unfolding head_line
head_words x y z = simp append_assoc

point_words : (s : ℕ) (x y : Float) → point_line s x y ≡ (decimal s ++ 32 ∷ []) ++ ((hex x ++ 32 ∷ []) ++ (hex y ++ 10 ∷ []))
unfolding point_line
point_words s x y = simp append_assoc

module _ (d₀ d₁ d₂ d₃ : List ℕ) (k a b r : ℕ) (h : r ≤ length d₀) where
  pub head_is : (x y z : ℕ) → a ≡ k + length (decimal x ++ 32 ∷ []) → b ≡ a + length (decimal y ++ 32 ∷ []) → r ≡ b + length (decimal z ++ 10 ∷ [])
      → Put d₀ d₁ k (decimal x ++ 32 ∷ []) → Put d₁ d₂ a (decimal y ++ 32 ∷ []) → Put d₂ d₃ b (decimal z ++ 10 ∷ [])
      → Put d₀ d₃ k (head_line x y z) × (r ≡ k + length (head_line x y z))
  head_is x y z ea eb er = three d₀ d₁ d₂ d₃ (head_line x y z) (decimal x ++ 32 ∷ []) (decimal y ++ 32 ∷ []) (decimal z ++ 10 ∷ []) k a b r (head_words x y z) ea eb er h

  pub point_is : (s : ℕ) (x y : Float) → a ≡ k + length (decimal s ++ 32 ∷ []) → b ≡ a + 17 → r ≡ b + 17
      → Put d₀ d₁ k (decimal s ++ 32 ∷ []) → Put d₁ d₂ a (hex x ++ 32 ∷ []) → Put d₂ d₃ b (hex y ++ 10 ∷ [])
      → Put d₀ d₃ k (point_line s x y) × (r ≡ k + length (point_line s x y))
  point_is s x y ea eb er =
      let u = longer (hex x) 16 32 (hex_length x) in
      let v = longer (hex y) 16 10 (hex_length y) in
      three d₀ d₁ d₂ d₃ (point_line s x y) (decimal s ++ 32 ∷ []) (hex x ++ 32 ∷ []) (hex y ++ 10 ∷ []) k a b r (point_words s x y) ea (omega (arith, u)) (omega (arith, v)) h
