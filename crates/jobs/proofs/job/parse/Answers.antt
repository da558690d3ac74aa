use mathlib.Core.Path.{◌≡◌, sym, ◌∙◌}
use Rattle.std.specs.Prelude.{Err}
use Rattle.refusal.specs.declared.Refusal.TheVariants.{Layout}
use borrow.Author.Rules.{rules}
use Rattle.jobs.specs.Job.{corners, ends}
use Rattle.jobs.specs.JobLaws.{head_long, parsed_head, parsed_framed}
use Rattle.jobs.proofs.job.parse.Goals as goal

pub returns-in_err-unless-clause-value : goal.returns-in_err-unless-clause-value
returns-in_err-unless-clause-value c = let r : c.from_residual.result ≡ Err Layout = search rules in rw r (parsed_head c.args.bytes.now _ _ (sym c.good_head.ensures ∙ c.in_err-unless.ensures.1))

pub framed-requires : goal.framed-requires
framed-requires c = let h = head_long 1 c.args.bytes.now (sym c.good_head.ensures ∙ c.in_ok-unless.ensures) in (h, h)

pub returns : goal.returns
unfolding corners ends
returns c =
    let f = c.framed.ensures in
    record { value = f.value ∙ parsed_framed c.args.bytes.now _ _ (sym c.good_head.ensures ∙ c.in_ok-unless.ensures); corners_after = f.corners_after; ends_after = f.ends_after }
