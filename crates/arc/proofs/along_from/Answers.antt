use Rattle.std.proofs.Common.{◌∙◌}
use Rattle.std.specs.Float.Ieee.{of_bits}
use Rattle.arc.specs.WindowLaws.{side_at}
use Rattle.arc.proofs.along_from.Goals as goal

pub returns-then-s-cum : goal.returns-then-s-cum
unfolding of_bits
returns-then-s-cum c =
    c.along.ensures ∙ side_at c.args.pts.now c.args.cum.now c.args.s c.args.k c.requires (record {
      some = c.if-k-gt0.true;
      few = c.if-k-cum.true;
      above = c.if-s.true;
      from = c.if-cum-k.true;
      to = c.if-s-cum.true;
    })
