use Rattle.dst.specs.Records.{third}
use borrow.Author.Rules.{rules}
use Rattle.dst.proofs.records.third.Goals as goal

pub returns : goal.returns
unfolding third
returns c = search rules
