use Rattle.passes.proofs.threads.pair_in.Goals as goal

pub returns : goal.returns
returns c = rw (c.corner-a.ensures, c.corner-b.ensures)
