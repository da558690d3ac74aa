use Rattle.std.specs.Prelude.{MatchOption}
use Rattle.std.proofs.Common.{rules, ◌∙◌}
use Rattle.salvage.proofs.Chains.{NoneKept, IsFirst, first_chain}
use Rattle.salvage.proofs.ring.first_kept.Goals as goal

pub returns : goal.returns
returns c =
    let ms = c.args.marks.now in
    let e : MatchOption c.position.result (NoneKept ms) (IsFirst ms) = search rules in
    c.unwrap_or.ensures ∙ first_chain ms c.position.result e
