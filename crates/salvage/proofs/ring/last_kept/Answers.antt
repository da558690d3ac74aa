use Rattle.std.specs.Prelude.{MatchOption}
use Rattle.std.proofs.Common.{rules, ◌∙◌}
use Rattle.salvage.proofs.Chains.{NoneKept, IsLast, last_chain}
use Rattle.salvage.proofs.ring.last_kept.Goals as goal

pub returns : goal.returns
returns c =
    let ms = c.args.marks.now in
    let e : MatchOption c.rposition.result (NoneKept ms) (IsLast ms) = search rules in
    c.unwrap_or.ensures ∙ last_chain ms c.rposition.result e
