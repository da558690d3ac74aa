use native.Mathlib.Omega.{arith}
use Rattle.layers.specs.LayerLaws.{standing_for}
use Rattle.layers.proofs.two.fill_both.Goals as goal

pub fill_layer-a-requires : goal.fill_layer-a-requires
fill_layer-a-requires c = let a = c.args in standing_for a.corners.now a.ends.now a.cosine a.sine a.first c.settings_of-g.ensures c.requires

pub fill_layer-b-requires : goal.fill_layer-b-requires
fill_layer-b-requires c =
    let a = c.args in
    let s = standing_for a.corners.now a.ends.now a.cosine a.sine a.second c.settings_of-h.ensures c.requires in
    record { outline = s.outline; numbers = s.numbers; turn = s.turn; edges = s.edges; floats = s.floats; wholes = omega (arith, s.wholes) }

pub returns : goal.returns
returns c = record { wholes_after = rw c.settings_of-g.ensures at c.fill_layer-a.ensures; wholes2_after = rw c.settings_of-h.ensures at c.fill_layer-b.ensures }
