-- All sections, counted. Assumes nothing.
use mathlib.Core.Path.{◌≡◌}
use mathlib.Core.List.{map}
use Prim.Native.Nat.{◌+◌, ◌≤◌}
use lib.ListN.{length}
use Rattle.seqs.specs.Lists.{each}
use Rattle.rules.specs.Fill.{sewn}
use Rattle.sewing.specs.Sewing.{entries_in, first_sections}
use Rattle.sewing.proofs.Walks.{sewn_rest}
use Rattle.sewing.proofs.section.count.Given as goal

abbrev pub invariant-loop-s : goal.invariant-loop-s
invariant-loop-s l = (l.c ≤ l.cap) × (l.c + length (each (λ x. x) (sewn_rest l.t.field.g l.t.field.stagger (entries_in l.t.field l.floats l.wholes) l.s l.sections)) ≡ length (each (λ x. x) (map (sewn l.t.field.g l.t.field.stagger) (first_sections (entries_in l.t.field l.floats l.wholes) l.sections))))
