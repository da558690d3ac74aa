-- All sections, written. Assumes nothing.
use mathlib.Core.List.{map}
use Prim.Native.Nat.{◌/◌}
use Rattle.seqs.specs.Lists.{each}
use Rattle.seqs.specs.Front.{Front}
use Rattle.geom.specs.Sewing.{flat}
use Rattle.rules.specs.Fill.{sewn}
use Rattle.rules.specs.Calls.{sewn_ends}
use Rattle.sewing.specs.Sewing.{entries_in, first_sections}
use Rattle.sewing.proofs.Walks.{sewn_rest}
use Rattle.sewing.proofs.section.write.Given as goal

abbrev pub invariant-loop-s : goal.invariant-loop-s
invariant-loop-s l = Front l.initial.out l.out l.at (flat (each (λ x. x) (sewn_rest l.t.field.g l.t.field.stagger (entries_in l.t.field l.floats l.wholes) l.s l.sections))) (flat (each (λ x. x) (map (sewn l.t.field.g l.t.field.stagger) (first_sections (entries_in l.t.field l.floats l.wholes) l.sections)))) × Front l.initial.ends l.ends l.s (sewn_ends (l.at / 2) (sewn_rest l.t.field.g l.t.field.stagger (entries_in l.t.field l.floats l.wholes) l.s l.sections)) (sewn_ends 0 (map (sewn l.t.field.g l.t.field.stagger) (first_sections (entries_in l.t.field l.floats l.wholes) l.sections)))
