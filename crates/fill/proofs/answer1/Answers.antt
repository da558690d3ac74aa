-- What a job leaves, listed. Assumes nothing.
use lib.Ieee.{of_bits}
use mathlib.Core.Path.{◌∙◌, ap}
use mathlib.Core.List.{◌++◌}
use native.Mathlib.Omega.{arith}
use lib.ListN.{length, drop, replicate}
use Rattle.numbers.specs.Num.{zero64}
use Rattle.desk.specs.Listing.{lent_left, printed1}
use Rattle.desk.specs.ListingLaws.{job_told, told_read, listing_is}
use borrow.Author.Rules.{rules}
use Prim.Native.Nat.{ℕ}
use Rattle.jobs.specs.Text.{listing as Text·listing}
use Rattle.tatami.specs.Left.{said_filled}
use Rattle.fill.proofs.answer1.Goals as goal

pub listing-requires : goal.listing-requires
unfolding of_bits
listing-requires c =
    let f = c.fill-r.ensures in
    let t = told_read (lent_left c.args.bytes.now) f.0 f.1 f.2 (job_told (replicate 8192 zero64) (replicate 8192 zero64) (replicate 512 0) (replicate 8192 0) c.args.bytes.now 2048 255) in
    rw c.told-answer.ensures.1 (t.0, t.1, omega (arith, c.requires))

pub returns : goal.returns
unfolding of_bits printed1
returns c =
    let f = c.fill-r.ensures in
    let e = listing_is (lent_left c.args.bytes.now) f.0 f.1 f.2 in record { out_after = (rw (c.told-answer.ensures.0, c.told-answer.ensures.1, c.told-answer.ensures.2) at c.listing.ensures.out_after) ∙ ap (λ l. l ++ drop c.listing.result c.args.out.now) e; value = (rw (c.told-answer.ensures.0, c.told-answer.ensures.1) at c.listing.ensures.value.0) ∙ ap (λ (m : ℕ). length (Text·listing (said_filled c.fill-r.result).answer (said_filled c.fill-r.result).sections m c.fill-r.new.points c.fill-r.new.stops)) c.told-answer.ensures.2 ∙ ap length e }
