use Rattle.satinrules.specs.Pairs.{ends_of}
use Rattle.satinrules.specs.Calls.{rails_of}
use Rattle.satinroom.proofs.ends_of.Goals as goal

pub returns : goal.returns
unfolding ends_of rails_of
returns c = rw (c.polyline_length.ensures, c.polyline_length-2.ensures)
