-- `inset` meets its contract: one length serves both ways. Assumes nothing.
use lib.Ieee.{of_bits, round}
use Rattle.numbers.specs.Num.{literal}
use Rattle.geom.specs.Point.{dist}
use Rattle.satinrules.specs.Settings.{underlay_inset}
use Rattle.satinrules.specs.Column.{inset}
use Rattle.passes.specs.Apart.{len_turned}
use Rattle.passes.proofs.threads.inset.Goals as goal

pub towards-requires : goal.towards-requires
towards-requires c = rw (c.len-l.ensures, c.minus-v.ensures, c.minus.ensures) (len_turned c.args.q.a c.args.q.b)

pub towards-requires-2 : goal.towards-requires-2
towards-requires-2 c = c.len-l.ensures

pub returns : goal.returns
unfolding dist inset literal of_bits round underlay_inset
returns c = rw (c.plus-p.ensures, c.times.ensures, c.towards.ensures, c.plus-r.ensures, c.times-2.ensures, c.towards-2.ensures, c.minus.ensures, c.smaller-d.ensures, c.len-l.ensures, c.minus-v.ensures)
