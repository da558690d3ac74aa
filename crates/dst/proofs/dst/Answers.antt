-- `dst` meets its contract: each answer follows from the tests on the way to it. Assumes nothing.
use mathlib.Core.Path.{◌≡◌, refl, sym, ap, ◌∙◌}
use Prim.Native.Nat.{ℕ, ◌+◌, ◌*◌, ◌/◌, ◌≤◌, ◌<◌}
use native.Mathlib.Omega.{arith}
use lib.ListN.{length}
use borrow.Author.Tests.{le-leb, lt-leb}
use Rattle.std.specs.Prelude.{Ok}
use Rattle.refusal.specs.Sewn.{said_written}
use Rattle.seqs.specs.Capped.{capped_exact, capped_past}
use Rattle.geom.specs.Outline.{points}
use Rattle.dst.specs.Thread.{origin, thread, dst_bytes}
use Rattle.dst.specs.ThreadLaws.{bytes_length}
use Rattle.dst.specs.Answers.{dst_refusal, dst_written, dst_output}
use Rattle.dst.proofs.dst.Goals as goal

pub count-n-requires : goal.count-n-requires
count-n-requires c = (sym c.good_numbers.ensures ∙ c.in_ok-unless-2.ensures, omega arith)

pub returns-then-n-room : goal.returns-then-n-room
unfolding dst_refusal dst_written dst_output
returns-then-n-room c =
    let a = c.args in
    let ps = points a.points.now in
    let h : length a.out.now < length (dst_bytes ps) = omega (arith, bytes_length ps, capped_past (length a.out.now / 3) (1 + length (thread origin ps)) c.count-n.ensures c.if-n-room.true) in
    rw (c.in_ok-unless.ensures, sym c.good_numbers.ensures ∙ c.in_ok-unless-2.ensures, lt-leb (length (dst_bytes ps)) (length a.out.now) h) (refl, refl)

pub write-requires : goal.write-requires
write-requires c =
    let a = c.args in
    let ps = points a.points.now in
    (sym c.good_numbers.ensures ∙ c.in_ok-unless-2.ensures, omega (arith, bytes_length ps, c.if-n-room.false, capped_exact (length a.out.now / 3) (1 + length (thread origin ps)) c.count-n.ensures c.if-n-room.false))

pub returns : goal.returns
unfolding dst_refusal dst_written dst_output
returns c =
    let a = c.args in
    let ps = points a.points.now in
    let n = capped_exact (length a.out.now / 3) (1 + length (thread origin ps)) c.count-n.ensures c.if-n-room.false in
    let e : 3 * c.count-n.result ≡ length (dst_bytes ps) = omega (arith, bytes_length ps, n) in
    let h : length (dst_bytes ps) ≤ length a.out.now = omega (arith, e, c.if-n-room.false) in
    rw (c.in_ok-unless.ensures, sym c.good_numbers.ensures ∙ c.in_ok-unless-2.ensures, le-leb (length (dst_bytes ps)) (length a.out.now) h) (ap (λ (b : ℕ). said_written (Ok b)) e, c.write.ensures)
