-- What both fills of a version 2 job leave, listed. Assumes nothing.
use lib.Ieee.{of_bits}
use native.Mathlib.Omega.{arith}
use Rattle.std.proofs.Common.{◌∙◌, ap}
use Prim.Native.Nat.{ℕ}
use lib.ListN.{length}
use Rattle.seqs.specs.Front.{rest_length}
use Rattle.desk.specs.Listing.{listing_of, lent, lent_left2, printed2}
use Rattle.desk.specs.ListingLaws.{job2_told, told_read, listing_is}
use Rattle.fill.proofs.Lines.{lines_behind}
use borrow.Author.Rules.{rules}
use Rattle.jobs.specs.Text.{listing as Text·listing}
use Rattle.tatami.specs.Left.{said_filled}
use Rattle.fill.proofs.answer2.Goals as goal

pub listing-k-requires : goal.listing-k-requires
unfolding of_bits
listing-k-requires c =
    let s = c.args.bytes.now in
    let f = c.fill2-r.ensures.seen in
    let t = told_read (lent_left2 s).first f.0 f.1 f.2 (job2_told lent lent lent.floats lent.wholes s 2048 255).0 in
    rw c.told-a.ensures.1 (t.0, t.1, omega (arith, c.requires))

pub listing-m-requires : goal.listing-m-requires
unfolding of_bits
listing-m-requires c =
    let s = c.args.bytes.now in
    let f = c.fill2-r.ensures.seen_2 in
    let t = told_read (lent_left2 s).second f.0 f.1 f.2 (job2_told lent lent lent.floats lent.wholes s 2048 255).1 in
    let l = c.listing-k in
    let r = rest_length l.new.out l.result (omega (arith, c.requires, l.ensures.value.1, l.auto.out, c.fill2-r.auto.points)) in
    rw c.told-b.ensures.1 (t.0, t.1, omega (arith, c.requires, l.ensures.value.1, l.auto.out, c.fill2-r.auto.points, c.fill2-r.auto.points2, r))

pub returns : goal.returns
unfolding of_bits printed2
returns c =
    let s = c.args.bytes.now in
    let f = c.fill2-r.ensures in
    let a = listing_is (lent_left2 s).first f.seen.0 f.seen.1 f.seen.2 in
    let b = listing_is (lent_left2 s).second f.seen_2.0 f.seen_2.1 f.seen_2.2 in
    let many = (rw (c.told-b.ensures.0, c.told-b.ensures.1) at c.listing-m.ensures.value.0) ∙ ap (λ (m : ℕ). length (Text·listing (said_filled c.fill2-r.result.second).answer (said_filled c.fill2-r.result.second).sections m c.fill2-r.new.points2 c.fill2-r.new.stops2)) c.told-b.ensures.2 in
    let told = lines_behind (listing_of (lent_left2 s).first) (listing_of (lent_left2 s).second) c.args.out.now a b (rw (c.told-a.ensures.0, c.told-a.ensures.1, c.told-a.ensures.2) at c.listing-k.ensures.out_after) (rw (c.told-a.ensures.0, c.told-a.ensures.1, c.told-a.ensures.2) at c.listing-k.ensures.value.0) (rw (c.told-b.ensures.0, c.told-b.ensures.1, c.told-b.ensures.2) at c.listing-m.ensures.out_after) many in
    record { out_after = told.0; value = told.1 }
