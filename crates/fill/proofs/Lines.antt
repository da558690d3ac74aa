-- A line at the front of an array is no longer than the array; a list put behind another; one listing or two.
use mathlib.Core.Path.{◌≡◌, sym, ap, ◌∙◌}
use mathlib.Core.List.{List, ◌++◌, append_assoc, append-nil}
use Prim.Native.Nat.{ℕ, ◌+◌, ◌-◌, ◌≤◌, ◌<◌}
use native.Mathlib.Omega.{arith}
use lib.ListN.{length, take, drop, length-append, length-drop}
use lib.Seq.{take_at, drop_at, take_all, drop-drop}
use borrow.Author.Tests.{le-leb, lt-leb, eq-eqb, ne_eqb}
use Rattle.seqs.specs.Front.{none}
use Rattle.jobs.specs.Job.{byte}
use Rattle.desk.specs.Listing.{printed1, printed2, printed}

pub line_fits : (l rest x : List ℕ) (n : ℕ) → n ≡ length l → x ≡ l ++ rest → n ≤ length x
line_fits l rest x n e h = omega (arith, ap length h, length-append l rest)

-- l stands at the front of d, and y is what a callee that is lent d from k on leaves there, with m in front
pub lines_behind : (l' m' d₀ : List ℕ) {l m d y : List ℕ} {k r : ℕ} → l ≡ l' → m ≡ m' → d ≡ l ++ drop k d₀ → k ≡ length l → y ≡ m ++ drop r (take (length d - k) (drop k d)) → r ≡ length m
    → (take k d ++ (y ++ drop (length d - k) (drop k d)) ≡ (l' ++ m') ++ drop (k + r) d₀) × (k + r ≡ length (l' ++ m'))
lines_behind l' m' d₀ {l} {m} {d} {y} {k} {r} p q h e g f =
    let a = ap (take k) h ∙ take_at l (drop k d₀) k (sym e) in
    let b = ap (drop k) h ∙ drop_at l (drop k d₀) k (sym e) in
    let t = take_all (length d - k) (drop k d) (omega (arith, length-drop k d)) in
    let z = none (drop k d) (length d - k) (omega (arith, length-drop k d)) in
    let x : y ≡ m ++ drop (k + r) d₀ = g ∙ ap (λ (u : List ℕ). m ++ drop r u) (t ∙ b) ∙ ap (λ (u : List ℕ). m ++ u) (drop-drop r k d₀) in
    let w = (λ i. a i ++ (x i ++ z i)) ∙ ap (λ (u : List ℕ). l ++ u) (append-nil (m ++ drop (k + r) d₀)) ∙ sym (append_assoc l m (drop (k + r) d₀)) in
    (w ∙ (λ i. (p i ++ q i) ++ drop (k + r) d₀), omega (arith, length-append l m, e, f) ∙ (λ i. length (p i ++ q i)))

-- one listing, or two by the version byte
module _ (s : List ℕ) where
  pub printed_short : length s < 5 → printed s ≡ printed1 s
  unfolding printed
  printed_short h = rw (lt-leb 5 (length s) h)

  module _ (h : 5 ≤ length s) where
    pub printed_two : byte 4 s ≡ 2 → printed s ≡ printed2 s
    unfolding printed
    printed_two e = rw (le-leb 5 (length s) h, eq-eqb (byte 4 s) 2 e)

    pub printed_one : (byte 4 s ≡ 2 → ⊥) → printed s ≡ printed1 s
    unfolding printed
    printed_one e = rw (le-leb 5 (length s) h, ne_eqb (byte 4 s) 2 e)
