use Rattle.dst.specs.Records.{lower}
use borrow.Author.Rules.{rules}
use Rattle.dst.proofs.records.lower.Goals as goal

pub returns : goal.returns
unfolding lower
returns c = search rules
