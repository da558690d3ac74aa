-- `scan` meets its contract: what the file answers from record r on is what it answers. Assumes nothing.
use mathlib.Core.Path.{◌≡◌, sym, ◌∙◌}
use Prim.Native.Nat.{◌/◌}
use native.Mathlib.Omega.{arith}
use lib.ListN.{length}
use Rattle.dst_read.specs.ReadingLaws.{verdict_end, verdict_size, verdict_bad, verdict_next, verdict_cut}
use borrow.Author.Rules.{rules}
use Rattle.dst_read.proofs.scan.scan.Goals as goal

pub returns-then-is_end : goal.returns-then-is_end
returns-then-is_end c = verdict_end c.args.bytes.now c.loop-r.r (search rules) c.at-record.result.a c.at-record.result.b c.at-record.result.c c.at-record.ensures.0 c.at-record.ensures.1 c.at-record.ensures.2 (sym c.is_end.ensures ∙ c.if-is_end.true) ∙ c.loop-r.invariant

pub returns-then-r-ge-MOST_RECORDS : goal.returns-then-r-ge-MOST_RECORDS
returns-then-r-ge-MOST_RECORDS c = verdict_size c.args.bytes.now c.loop-r.r (search rules) c.at-record.result.a c.at-record.result.b c.at-record.result.c c.at-record.ensures.0 c.at-record.ensures.1 c.at-record.ensures.2 (sym c.is_end.ensures ∙ c.if-is_end.false) (search rules) ∙ c.loop-r.invariant

pub returns-then-is_bad : goal.returns-then-is_bad
returns-then-is_bad c = verdict_bad c.args.bytes.now c.loop-r.r (search rules) c.at-record.result.a c.at-record.result.b c.at-record.result.c c.at-record.ensures.0 c.at-record.ensures.1 c.at-record.ensures.2 (sym c.is_end.ensures ∙ c.if-is_end.false) (search rules) (sym c.is_bad.ensures ∙ c.if-is_bad.true) ∙ c.loop-r.invariant

pub loop-r-preserved : goal.loop-r-preserved
loop-r-preserved c = verdict_next c.args.bytes.now c.loop-r.r (search rules) c.at-record.result.a c.at-record.result.b c.at-record.result.c c.at-record.ensures.0 c.at-record.ensures.1 c.at-record.ensures.2 (sym c.is_end.ensures ∙ c.if-is_end.false) (search rules) (sym c.is_bad.ensures ∙ c.if-is_bad.false) ∙ c.loop-r.invariant

pub returns : goal.returns
returns c =
    let e : c.loop-r.r ≡ length c.args.bytes.now / 3 = omega arith in
    rw (← e) (verdict_cut c.args.bytes.now c.loop-r.r (omega arith) ∙ c.loop-r.invariant)
