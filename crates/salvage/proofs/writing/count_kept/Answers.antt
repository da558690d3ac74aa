use Rattle.std.specs.Prelude.{◌≡◌, ◌==◌, count_by}
use Rattle.std.proofs.Common.{rules, sym, ◌∙◌}
use Rattle.salvage.proofs.Chains.{count_chain}
use Rattle.salvage.proofs.writing.count_kept.Goals as goal

pub returns : goal.returns
returns c =
    let e : c.count.result ≡ count_by (λ m. m == 0) c.args.marks.now = search rules in
    e ∙ sym (count_chain c.args.marks.now)
