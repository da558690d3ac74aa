use mathlib.Core.Path.{◌≡◌, sym, ◌∙◌}
use native.Mathlib.Omega.{arith}
use Rattle.std.specs.Prelude.{Err}
use Rattle.refusal.specs.declared.Refusal.TheVariants.{Room}
use borrow.Author.Rules.{rules}
use borrow.Author.Tests.{leb-true, leb-false}
use Rattle.jobs.specs.JobLaws.{counted_few, corners_length, framed_corners, framed_ends, framed_done}
use Rattle.jobs.proofs.job.framed.Goals as goal

pub overflow_cast-rings : goal.overflow_cast-rings
overflow_cast-rings c = omega (arith, c.shared_slice_known-3-1.given 7)

pub overflow_mul-n : goal.overflow_mul-n
overflow_mul-n c = omega (arith, counted_few _ 0 _ _ (omega arith) (sym c.count_corners.ensures ∙ c.in-Some.is))

pub returns-in_err-unless-clause-value : goal.returns-in_err-unless-clause-value
returns-in_err-unless-clause-value c = let r : c.from_residual.result ≡ Err Room = search rules in rw r (framed_corners c.args.bytes.now _ _ _ _ (sym c.count_corners.ensures ∙ c.in-Some.is) (leb-false _ _ c.in_err-unless.ensures.1))

pub returns-in_err-unless-2-clause-value : goal.returns-in_err-unless-2-clause-value
returns-in_err-unless-2-clause-value c = let r : c.from_residual-in_err-unless-2.result ≡ Err Room = search rules in rw r (framed_ends c.args.bytes.now _ _ _ _ (sym c.count_corners.ensures ∙ c.in-Some.is) (leb-true _ _ c.in_ok-unless.ensures) (leb-false _ _ c.in_err-unless-2.ensures.1))

pub write_ends-requires : goal.write_ends-requires
write_ends-requires c = (record { corners = c.in-Some.n; long = c.requires.1; is = sym c.count_corners.ensures ∙ c.in-Some.is }, leb-true _ _ c.in_ok-unless-2.ensures)

pub write_corners-requires : goal.write_corners-requires
write_corners-requires c =
    let e = sym c.count_corners.ensures ∙ c.in-Some.is in
    (record { corners = c.in-Some.n; long = c.requires.1; is = e }, omega (arith, corners_length _ 0 _ _ e, leb-true _ _ c.in_ok-unless.ensures))

pub returns-clause-value : goal.returns-clause-value
returns-clause-value c = rw c.job_of.ensures (framed_done c.args.bytes.now _ _ _ _ (sym c.count_corners.ensures ∙ c.in-Some.is) (leb-true _ _ c.in_ok-unless.ensures) (leb-true _ _ c.in_ok-unless-2.ensures))
