-- So many records stand, and no more than a million. Assumes nothing.
use Rattle.std.proofs.Common.{◌≡◌, sym, ap, arith, rules}
use Rattle.std.specs.Prelude.{Ok}
use Rattle.dst_read.specs.Unread.{Verdict, said_verdict}
use Rattle.dst_read.specs.Reading.{verdict}
use Rattle.dst_read.specs.ReadingLaws.{verdict_few, verdict_stand}
use Rattle.dst_read.proofs.dst_read.Goals as goal

pub overflow_mul-n : goal.overflow_mul-n
overflow_mul-n c = let v : said_verdict (Ok c.in_ok-n.n) ≡ verdict 0 c.args.bytes.now = search rules in omega (arith, ap (λ (v : Verdict). v.number) v, verdict_few 0 c.args.bytes.now (omega arith))

pub write-requires : goal.write-requires
write-requires c =
    let s = c.args.bytes.now in
    let v : said_verdict (Ok c.in_ok-n.n) ≡ verdict 0 s = search rules in
    let n = ap (λ (v : Verdict). v.number) v in
    record {
      few = omega (arith, n, verdict_few 0 s (omega arith));
      stand = omega (arith, n, verdict_stand 0 s (sym (ap (λ (v : Verdict). v.answer) v)));
      points_fit = omega arith;
      marks_fit = omega arith;
    }
