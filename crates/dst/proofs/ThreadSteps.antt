-- What the loops over the points rest on: each is good, and the records of the way to the next stand before those of the rest. Assumes nothing.
use mathlib.Core.Path.{◌≡◌, refl, ap, ◌∙◌}
use mathlib.Core.Bool.{true, ◌&&◌}
use mathlib.Core.List.{List, [], ◌∷◌, ◌++◌, append_assoc}
use Prim.Native.Nat.{ℕ}
use lib.Ieee.{Float}
use Rattle.seqs.specs.Lists.{every}
use Rattle.seqs.specs.Tests.{and_both}
use Rattle.geom.specs.declared.point.P.{P}
use Rattle.geom.specs.Outline.{points}
use Rattle.limits.specs.Limits.{good_number, good_numbers, good_point}
use Rattle.dst.specs.Records.{end_record}
use Rattle.dst.specs.Thread.{Whole, rounded_point, way, thread, records_from}
use Rattle.dst.specs.ThreadLaws.{thread_next}

pub good_points : (l : List Float) → good_numbers l ≡ true → every good_point (points l) ≡ true
unfolding good_numbers good_point points
good_points [] g = refl
good_points (x ∷ []) g = refl
good_points (x ∷ y ∷ l) g =
    let a = and_both (good_number x) (good_number y && good_numbers l) g in
    let b = and_both (good_number y) (good_numbers l) a.1 in
    rw (a.0, b.0) (good_points l b.1)

pub write_turn : (a : Whole) (p : P) (ps : List P) → records_from a (thread a (p ∷ ps)) ++ end_record ≡ records_from a (way a (rounded_point p)) ++ (records_from (rounded_point p) (thread (rounded_point p) ps) ++ end_record)
write_turn a p ps =
    let b = rounded_point p in
    ap (λ (m : List ℕ). m ++ end_record) (thread_next a p ps) ∙ append_assoc (records_from a (way a b)) (records_from b (thread b ps)) end_record
