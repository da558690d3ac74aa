-- An outline has no more kept edges than corners. Assumes nothing.
use Rattle.std.specs.Prelude.{◌≡◌, ℕ, true, leb, ◌-◌, ◌/◌, ◌≤◌, List, [], ◌∷◌, length, take, drop, Float}
use Rattle.std.proofs.Common.{arith, leb-true, length-append, length-take}
use Rattle.seqs.specs.Lists.{each}
use Rattle.seqs.specs.Tests.{and_both}
use Rattle.geom.specs.declared.point.P.{P}
use Rattle.geom.specs.Outline.{points, cut, rings, rising, Layout}
use Rattle.geom.specs.OutlineLaws.{points_length, rising_le}
use Rattle.rules.specs.declared.Settings.{Settings}
use Rattle.rules.specs.Fill.{kept_side, sides, turned, edges}
use Rattle.rules.proofs.Counts.{ring_edges_lem}
use Rattle.edges.specs.Table.{ring_edges}

-- rings that are cut from a list have no more kept edges than it has corners
cut_few : (g : Settings) (a : ℕ) (ends : List ℕ) (l : List P) → rising a ends (length l) ≡ true → length (edges g (cut a ends l)) ≤ length l - a
unfolding edges cut rising
cut_few g a [] l h = omega arith
cut_few g a (e ∷ ends) l h =
    let b = and_both (leb a e) (rising e ends (length l)) h in
    let ring = take (e - a) (drop a l) in
    omega (arith, leb-true a e b.0, rising_le e ends (length l) b.1, length-append (each kept_side (sides (turned g ring))) (edges g (cut e ends l)), ring_edges_lem g ring, length-take (e - a) (drop a l), cut_few g e ends l b.1)

pub outline_few : (g : Settings) (corners : List Float) (ends : List ℕ) → Layout corners ends → length (edges g (rings corners ends)) ≤ length corners / 2
unfolding rings
outline_few g corners ends h =
    let n = points_length corners in
    omega (arith, n, cut_few g 0 ends (points corners) (rw n h.rise))

-- a ring that is a part of the corner list has no more kept edges than corners
pub flat_few : (g : Settings) (l : List Float) → length (ring_edges g (points l)) ≤ length l / 2
unfolding ring_edges
flat_few g l = omega (arith, ring_edges_lem g (points l), points_length l)
