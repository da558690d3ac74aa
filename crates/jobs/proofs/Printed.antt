-- Lines one behind the other: what holds from point to point, and from section to section.
use mathlib.Core.Path.{◌≡◌, sym, ap, subst}
use mathlib.Core.List.{List, ◌++◌}
use Prim.Native.Nat.{ℕ, ◌+◌, ◌-◌, ◌*◌, ◌/◌, ◌≤◌, ◌<◌}
use native.Mathlib.Omega.{arith}
use lib.ListN.{length, take, drop, get_or, length-append}
use lib.Ieee.{Float, nan}
use Rattle.seqs.specs.Slices.{Put}
use Rattle.seqs.specs.Front.{Front, front_from, front_at, front_whole}
use Rattle.seqs.specs.Put.{put_then}
use Rattle.seqs.specs.Wrote.{put_end}
use Rattle.seqs.specs.Reads.{fuel_more, fuel_none, part_next, part_none}
use Rattle.jobs.specs.Text.{head_line, point_line, point_lines, section_lines, listing, Ends}

-- the next line, at the place that the writer answers
line_on : {d₀ d whole : List ℕ} {k r : ℕ} (m rest d' : List ℕ) → Front d₀ d k (m ++ rest) whole → k + length m ≤ length d₀ → Put d d' k m → r ≡ k + length m → Front d₀ d' r rest whole
line_on {d₀} {d} {whole} {k} m rest d' f h p e = subst (λ j. Front d₀ d' j rest whole) (sym e) (front_whole m rest d' f (omega (arith, f.len)) p)

module _ (l : List Float) (s from to at : ℕ) (d₀ : List ℕ) where
  -- up to point i the lines are put
  pub record Points (d : List ℕ) (k i : ℕ) : Type 0 where
    pub low : from ≤ i
    pub high : i ≤ to
    pub most : k ≤ at + 55 * (i - from)
    pub front : Front d₀ d k (point_lines l s i (to - i)) (take at d₀ ++ point_lines l s from (to - from))

  pub points_start : at ≤ length d₀ → from ≤ to → Points d₀ at from
  points_start h g = record { low = omega arith; high = g; most = omega arith; front = front_from d₀ (point_lines l s from (to - from)) at h }

  module _ {d : List ℕ} {k i : ℕ} (p : Points d k i) where
    pub points_next : {d' : List ℕ} {r : ℕ} → i < to → k + 55 ≤ length d₀ → Put d d' k (point_line s (get_or l (2 * i) nan) (get_or l (2 * i + 1) nan)) → r ≡ k + length (point_line s (get_or l (2 * i) nan) (get_or l (2 * i + 1) nan)) → r ≤ k + 55 → Points d' r (i + 1)
    unfolding point_lines
    points_next {d'} {r} h room x e b =
        let m = point_line s (get_or l (2 * i) nan) (get_or l (2 * i + 1) nan) in
        record {
          low = omega (arith, p.low);
          high = omega arith;
          most = omega (arith, p.most, p.low);
          front = line_on m (point_lines l s (i + 1) (to - (i + 1))) d' (front_at (ap (point_lines l s i) (fuel_more to i h)) p.front) (omega arith) x e;
        }

    pub points_end : to ≤ i → at ≤ length d₀ → Put d₀ d at (point_lines l s from (to - from)) × ((k ≡ at + length (point_lines l s from (to - from))) × (k ≤ at + 55 * (to - from)))
    unfolding point_lines
    points_end h g =
        let e = put_end (point_lines l s from (to - from)) at g (front_at (ap (point_lines l s i) (fuel_none to i h)) p.front) in
        (e.0, (e.1, omega (arith, p.most, p.high)))

module _ (l : List Float) (stops : List ℕ) (n at : ℕ) (d₀ : List ℕ) (room : n ≤ length stops) where
  -- up to section s, which starts at point `from`
  pub record Sections (d : List ℕ) (k from s : ℕ) : Type 0 where
    pub high : s ≤ n
    pub most : k + 55 * (length l / 2 - from) ≤ at + 55 * (length l / 2)
    pub fits : at + 55 * (length l / 2) ≤ length d₀
    pub ends : Ends l from (drop s (take n stops))
    pub front : Front d₀ d k (section_lines l s from (drop s (take n stops))) (take at d₀ ++ section_lines l 0 0 (take n stops))

  pub sections_start : Ends l 0 (take n stops) → at + 55 * (length l / 2) ≤ length d₀ → Sections d₀ at 0 0
  sections_start h g = record { high = omega arith; most = omega arith; fits = g; ends = h; front = front_from d₀ (section_lines l 0 0 (take n stops)) at (omega arith) }

  module _ {d : List ℕ} {k from s : ℕ} (p : Sections d k from s) where
    pub sections_at : s < n → (from ≤ get_or stops s 0) × (2 * get_or stops s 0 ≤ length l) × Ends l (get_or stops s 0) (drop (s + 1) (take n stops))
    sections_at h = subst (Ends l from) (part_next stops n s 0 h room) p.ends

    pub sections_next : {d' : List ℕ} {r : ℕ} → s < n → Put d d' k (point_lines l s from (get_or stops s 0 - from)) → r ≡ k + length (point_lines l s from (get_or stops s 0 - from)) → r ≤ k + 55 * (get_or stops s 0 - from) → Sections d' r (get_or stops s 0) (s + 1)
    unfolding section_lines
    sections_next {d'} {r} h x e b =
        let to = get_or stops s 0 in
        let a = sections_at h in
        record {
          high = omega arith;
          most = omega (arith, p.most, a.0, a.1);
          fits = p.fits;
          ends = a.2;
          front = line_on (point_lines l s from (to - from)) (section_lines l (s + 1) to (drop (s + 1) (take n stops))) d' (front_at (ap (section_lines l s from) (part_next stops n s 0 h room)) p.front) (omega (arith, p.most, p.fits, a.0, a.1)) x e;
        }

    pub sections_end : n ≤ s → at ≤ length d₀ → Put d₀ d at (section_lines l 0 0 (take n stops)) × ((k ≡ at + length (section_lines l 0 0 (take n stops))) × (k ≤ at + 55 * (length l / 2)))
    unfolding section_lines
    sections_end h g =
        let e = put_end (section_lines l 0 0 (take n stops)) at g (front_at (ap (section_lines l s from) (part_none stops n s h room)) p.front) in
        (e.0, (e.1, omega (arith, p.most)))

-- the head line, and the lines behind it
pub listed : (answer n many : ℕ) (l : List Float) (stops d d₁ d' : List ℕ) {k r : ℕ} → k ≤ length d → Put d d₁ 0 (head_line answer n many) → k ≡ 0 + length (head_line answer n many) → Put d₁ d' k (section_lines l 0 0 (take n stops)) → (r ≡ k + length (section_lines l 0 0 (take n stops))) × (r ≤ k + 55 * (length l / 2)) → k ≤ 63
    → (d' ≡ listing answer n many l stops ++ drop r d) × ((r ≡ length (listing answer n many l stops)) × (r ≤ 63 + 55 * (length l / 2)))
unfolding listing
listed answer n many l stops d d₁ d' {k} {r} h p e q f m =
    let a = head_line answer n many in
    let b = section_lines l 0 0 (take n stops) in
    let c : r ≡ length (a ++ b) = omega (arith, length-append a b, f.0) in
    (rw c (put_then d d₁ d' a b 0 k (omega arith) p e q), (c, omega (arith, f.1)))
