use Rattle.std.proofs.Common.{◌≡◌, length}
use Rattle.std.proofs.Math.Bool.{false}
use Rattle.satinrules.specs.Pairs.{kept}
use Rattle.pairing.proofs.places.WindowsIterator.next.Given as goal

abbrev pub invariant-loop-q : goal.invariant-loop-q
invariant-loop-q l =
    let i = l.self-inside in
    (i.done ≡ false) × (i.from ≡ l.from) × (i.ends ≡ l.initial.self-inside.ends) × (kept i.ends l.from i.sync ≡ kept i.ends l.from l.initial.self-inside.sync)

abbrev pub decreases-loop-q : goal.decreases-loop-q
decreases-loop-q l = length l.self-inside.sync
