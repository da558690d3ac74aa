-- `piece_inside` meets its contract. Assumes nothing.
use mathlib.Core.Path.{sym, ◌∙◌}
use mathlib.Core.Bool.{true≢false}
use mathlib.Core.Logic.{inl, inr}
use lib.Ieee.{of_bits, of_int, round}
use Rattle.patterns_rules.specs.Patterns.{piece_inside}
use Rattle.clip.proofs.piece_inside.Goals.{then-was, else-was}
use Rattle.clip.proofs.piece_inside.Goals as goal

pub returns-then-is : goal.returns-then-is
unfolding of_bits of_int piece_inside round
returns-then-is c = rw (sym c.requires.0 ∙ c.if-is.true.0, sym c.requires.1 ∙ c.if-is.true.1) c.has_way.ensures

pub returns-else-is : goal.returns-else-is
unfolding piece_inside
returns-else-is c =
    let p = sym c.requires.0 in
    let q = sym c.requires.1 in
    elim c.if-is.either [
      | inl e ↦ rw (p ∙ e.0, q ∙ e.1) (elim c.if-was.branch [ then-was w ↦ w.t-7-is ∙ e.1 | else-was w ↦ w.t-7-is ∙ w.if-was.false ])
      | inr e ↦ rw (p ∙ e) (elim c.if-was.branch [ then-was w ↦ absurd (true≢false (sym w.if-was.true ∙ e)) | else-was w ↦ w.t-7-is ∙ e ])
    ]
