use mathlib.Core.Path.{◌≡◌, sym, ap, ◌∙◌}
use native.Mathlib.Omega.{arith}
use Rattle.std.specs.Prelude.{Err}
use Rattle.refusal.specs.declared.Refusal.TheVariants.{Layout}
use borrow.Author.Rules.{rules}
use Rattle.jobs.specs.Parsed.{said_parsed}
use Rattle.jobs.specs.Job2Laws.{head2_long, rings_long, parsed2_head, parsed2_refused, parsed2_done, left_kept, left_corners2, left_ends2}
use Rattle.jobs.proofs.job2.parse2.Goals as goal

pub returns-in_err-unless-clause-value : goal.returns-in_err-unless-clause-value
returns-in_err-unless-clause-value c = let r : c.from_residual.result ≡ Err Layout = search rules in rw r (parsed2_head c.args.bytes.now _ _ (sym c.good_head2.ensures ∙ c.in_err-unless.ensures.1))

pub slice_bounds-framed-count : goal.slice_bounds-framed-count
slice_bounds-framed-count c = omega (arith, head2_long c.args.bytes.now (sym c.good_head2.ensures ∙ c.in_ok-unless.ensures))

pub slice_bounds-framed-start : goal.slice_bounds-framed-start
slice_bounds-framed-start c = omega (arith, head2_long c.args.bytes.now (sym c.good_head2.ensures ∙ c.in_ok-unless.ensures))

pub framed-requires : goal.framed-requires
framed-requires c =
    let h = head2_long c.args.bytes.now (sym c.good_head2.ensures ∙ c.in_ok-unless.ensures) in
    (omega (arith, h), rings_long c.args.bytes.now h)

pub second_of-requires : goal.second_of-requires
second_of-requires c = head2_long c.args.bytes.now (sym c.good_head2.ensures ∙ c.in_ok-unless.ensures)

pub returns-in_err-first : goal.returns-in_err-first
returns-in_err-first c =
    let f = c.framed.ensures in
    let e = ap said_parsed c.in_err-first.was in
    let r : c.from_residual-in_err-first.result ≡ Err c.in_err-first.field-0.0 = search rules in
    rw r (record { value = parsed2_refused c.args.bytes.now _ _ (sym c.good_head2.ensures ∙ c.in_ok-unless.ensures) f.value e; corners_after = left_kept e _ _ f.corners_after; ends_after = left_kept e _ _ f.ends_after })

pub returns : goal.returns
returns c =
    let s = c.args.bytes.now in
    let f = c.framed.ensures in
    let e = ap said_parsed c.in_ok-first.was in
    record { value = parsed2_done s _ _ (sym c.good_head2.ensures ∙ c.in_ok-unless.ensures) f.value e c.second_of.ensures; corners_after = left_corners2 s e _ f.corners_after; ends_after = left_ends2 s e _ f.ends_after }
