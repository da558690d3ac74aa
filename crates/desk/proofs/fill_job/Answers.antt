-- The job's outline is what `tatami` is lent. Assumes nothing.
use mathlib.Core.Path.{◌≡◌, sym, ap}
use native.Mathlib.Omega.{arith}
use lib.Seq.{length-take-le}
use Rattle.std.specs.Prelude.{Err}
use Rattle.jobs.specs.Parsed.{said_parsed}
use Rattle.desk.specs.DeskLaws.{job_accepted, left_refused, left_done}
use borrow.Author.Rules.{rules}
use Rattle.desk.proofs.fill_job.Goals as goal

pub overflow_mul-n : goal.overflow_mul-n
overflow_mul-n c = omega (arith, (job_accepted c.args.bytes.now _ _ _ c.parse.ensures.value _ (ap said_parsed c.in_ok-j.was)).few)

pub slice_bounds-tatami-end : goal.slice_bounds-tatami-end
slice_bounds-tatami-end c = omega (arith, (job_accepted c.args.bytes.now _ _ _ c.parse.ensures.value _ (ap said_parsed c.in_ok-j.was)).numbers_fit)

pub slice_bounds-tatami-end-2 : goal.slice_bounds-tatami-end-2
slice_bounds-tatami-end-2 c = sym (length-take-le _ _ (omega (arith, (job_accepted c.args.bytes.now _ _ _ c.parse.ensures.value _ (ap said_parsed c.in_ok-j.was)).numbers_fit)))

pub slice_bounds-tatami-end-3 : goal.slice_bounds-tatami-end-3
slice_bounds-tatami-end-3 c = omega (arith, (job_accepted c.args.bytes.now _ _ _ c.parse.ensures.value _ (ap said_parsed c.in_ok-j.was)).rings_fit)

pub slice_bounds-tatami-end-4 : goal.slice_bounds-tatami-end-4
slice_bounds-tatami-end-4 c = sym (length-take-le _ _ (omega (arith, (job_accepted c.args.bytes.now _ _ _ c.parse.ensures.value _ (ap said_parsed c.in_ok-j.was)).rings_fit)))

pub returns-in_err-j-clause-wholes_after : goal.returns-in_err-j-clause-wholes_after
returns-in_err-j-clause-wholes_after c =
    let r : c.from_residual.result ≡ Err c.in_err-j.field-0.0 = search rules in
    rw r (left_refused c.args.bytes.now _ _ _ c.parse.ensures.value _ _ _ _ _ (ap said_parsed c.in_err-j.was))

pub returns-clause-wholes_after : goal.returns-clause-wholes_after
returns-clause-wholes_after c = left_done c.args.bytes.now _ _ _ c.parse.ensures.value _ _ _ _ _ (ap said_parsed c.in_ok-j.was) _ _ _ _ c.parse.ensures.corners_after c.parse.ensures.ends_after _ c.tatami.ensures
