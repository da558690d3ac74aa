use lib.Ieee.{of_bits, round}
use Rattle.numbers.specs.Num.{literal}
use Rattle.satinrules.specs.Settings.{short_inset}
use Rattle.passes.specs.Threads.{moved_in}
use Rattle.passes.proofs.top.moved.Goals as goal

pub returns : goal.returns
unfolding literal moved_in of_bits round short_inset
returns c = rw (c.pulled-b2.ensures, c.pulled-a2.ensures, c.dist-by.ensures)
