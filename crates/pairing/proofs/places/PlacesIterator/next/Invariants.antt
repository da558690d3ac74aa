use Rattle.std.proofs.Common.{◌≡◌, length}
use Rattle.numbers.specs.Num.{◌⊖◌}
use Rattle.polyline.specs.Line.{shortest}
use Rattle.satinrules.specs.Pairs.{centre}
use Rattle.pairing.specs.Walk.{places_left}
use Rattle.pairing.proofs.places.PlacesIterator.next.Given as goal

abbrev pub invariant-loop-self : goal.invariant-loop-self
invariant-loop-self l =
    let i = l.self-inside in
    (places_left i.step i.window.from i.window.to i.windows i.s i.left i.ends ≡ l.fn.self) × (i.end ≡ centre i.window.from i.window.to ⊖ shortest)

abbrev pub decreases-loop-self : goal.decreases-loop-self
decreases-loop-self l = length l.self-inside.windows.1
