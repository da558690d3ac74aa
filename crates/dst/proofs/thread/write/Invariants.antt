-- `write` meets its contract: the records of the points to come, and the end, are to be written from k on. Assumes nothing.
use mathlib.Core.Path.{◌≡◌}
use mathlib.Core.Bool.{true}
use mathlib.Core.List.{◌++◌}
use Rattle.seqs.specs.Front.{Front}
use Rattle.seqs.specs.Lists.{every}
use Rattle.geom.specs.Outline.{points}
use Rattle.limits.specs.Limits.{good_point}
use Rattle.dst.specs.Records.{end_record}
use Rattle.dst.specs.Thread.{thread, records_from, dst_bytes}
use Rattle.dst.specs.Lifted.{standing}
use Rattle.dst.proofs.thread.write.Given as goal

abbrev pub invariant-loop-p : goal.invariant-loop-p
invariant-loop-p l = (every good_point l.p-iterator ≡ true) × Front l.initial.out l.out l.k (records_from (standing l.from) (thread (standing l.from) l.p-iterator) ++ end_record) (dst_bytes (points l.points))
