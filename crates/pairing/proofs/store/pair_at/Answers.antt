-- `pair_at` meets its contract: each rail is walked by its own running lengths, wherever it is begun. Assumes nothing.
use Rattle.satinrules.specs.Arc.{rail_at}
use Rattle.pairing.proofs.store.pair_at.Goals as goal

pub along_from-p-requires : goal.along_from-p-requires
along_from-p-requires c = rw c.along_a.ensures c.args.rails.laid.rail_a

pub along_from-q-requires : goal.along_from-q-requires
along_from-q-requires c = rw c.along_b.ensures c.args.rails.laid.rail_b

pub returns : goal.returns
unfolding rail_at
returns c = rw (c.along_from-p.ensures, c.along_from-q.ensures, c.along_a.ensures, c.along_b.ensures)
