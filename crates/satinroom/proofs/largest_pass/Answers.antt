-- `largest_pass` meets its contract: one pass after the other. Assumes nothing.
use mathlib.Core.Path.{◌≡◌, sym, ◌∙◌}
use mathlib.Core.Bool.{true}
use mathlib.Core.List.{[], ◌∷◌}
use lib.Ieee.{of_bits, round}
use Rattle.numbers.specs.Num.{literal}
use Rattle.geom.specs.Outline.{points}
use Rattle.satinrules.specs.Settings.{zigzag_underlay_spacing}
use Rattle.satinrules.specs.Column.{only_if, bit}
use Rattle.satin.specs.Underlay.{runs}
use Rattle.satinroom.specs.Room.{largest_from}
use Rattle.satinroom.specs.RoomLaws.{largest_three}
use Rattle.satinroom.proofs.largest_pass.Goals as goal

pub returns : goal.returns
unfolding literal of_bits round zigzag_underlay_spacing
returns c =
    let a = c.args in
    let run : c.larger_pass-run.result ≡ largest_from a.course.ends (points a.course.sync.now) 0 (only_if (runs a.g) (a.g.run_len ∷ [])) = rw c.runs.ensures at c.larger_pass-run.ensures in
    let under : c.larger_pass-under.result ≡ largest_from a.course.ends (points a.course.sync.now) c.larger_pass-run.result (only_if (bit a.g 4) (zigzag_underlay_spacing ∷ [])) = c.larger_pass-under.ensures in
    let top : c.larger_pass.result ≡ largest_from a.course.ends (points a.course.sync.now) c.larger_pass-under.result (only_if true (c.spaced.result ∷ [])) = c.larger_pass.ensures in
    top ∙ rw (c.spaced.ensures, under, run) (sym (largest_three a.course.ends (points a.course.sync.now) a.g))
