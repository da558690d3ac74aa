-- The passes of a column: which are sewn, and what SIZE and N are worked out from. Definitions only.
use Rattle.std.specs.Prelude.{ℕ, ◌*◌, ◌≡◌, Bool, cond, List, leb, length, take, Float}
use Rattle.seqs.specs.Lists.{every}
use Rattle.geom.specs.declared.point.P.{P}
use Rattle.geom.specs.Outline.{points}
use Rattle.limits.specs.Limits.{most_pairs}
use Rattle.satinrules.specs.declared.Satin.{Satin}
use Rattle.satinrules.specs.Settings.{zigzag_underlay_spacing}
use Rattle.satinrules.specs.Pairs.{count_of}
use Rattle.satinrules.specs.Column.{bit, spacing_of}
use Rattle.satinrules.specs.Calls.{most}
use Rattle.pairing.specs.declared.places.Pass.{Pass}
use Rattle.pairing.specs.Walk.{pass_of, walk_places}
use Rattle.pairing.specs.Store.{stored_pairs}
use Rattle.satin.specs.Underlay.{runs}
use Rattle.column.specs.declared.sized.Passes.{Passes}
use Rattle.satin.specs.declared.underlay.Under.{Under}

-- `sized`, from the place where both rails end
unfoldable pub sized_at : P → List P → List Float → Bool
sized_at ends sync ss = every (λ s. leb (count_of ends sync s) most_pairs) ss

-- how many places a pass has; none where it isn't sewn
abbrev pub places_if : Bool → P → List P → Pass → ℕ
places_if sewn ends sync w = cond sewn (length (walk_places ends sync w)) 0

-- the underlay's passes and their places
unfoldable pub under_of : P → List P → Satin → Under
under_of ends sync g =
    let run = pass_of ends sync g.run_len in
    let zigzag = pass_of ends sync zigzag_underlay_spacing in
    record { run = run; n = places_if (runs g) ends sync run; zigzag = zigzag; m = places_if (bit g 4) ends sync zigzag }

-- those of the whole column
unfoldable pub passes_of : P → List P → Satin → Passes
passes_of ends sync g =
    let top = pass_of ends sync (spacing_of g) in
    record { under = under_of ends sync g; top = top; t = length (walk_places ends sync top) }

-- N of the underlay, and of the whole column
abbrev pub most_under : Under → ℕ
most_under u = most u.n u.m

abbrev pub most_in : Passes → ℕ
most_in p = most (most_under p.under) p.t

-- the top's pairs stand at the front of the working slice
abbrev pub TopLaid : List Float → List Float → List Float → P → Passes → List Float → Type 0
TopLaid a b sync ends p w = take (4 * p.t) w ≡ stored_pairs a b sync (walk_places ends (points sync) p.top)
