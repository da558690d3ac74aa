-- The listings are no longer than the array they were put into. Assumes nothing.
use mathlib.Core.Path.{sym}
use native.Mathlib.Omega.{arith}
use lib.Seq.{length-take-le}
use Rattle.desk.specs.Listing.{printed}
use Rattle.fill.proofs.Lines.{line_fits}
use borrow.Author.Rules.{rules}
use Rattle.fill.proofs.main.Goals as goal

pub answer-k-requires : goal.answer-k-requires
answer-k-requires c = omega (arith, c.paper-out.ensures)

pub slice_bounds-out-end : goal.slice_bounds-out-end
slice_bounds-out-end c = line_fits (printed _) _ _ _ c.answer-k.ensures.value c.answer-k.ensures.out_after

pub slice_bounds-write_all-end : goal.slice_bounds-write_all-end
slice_bounds-write_all-end c = sym (length-take-le _ _ (line_fits (printed _) _ _ _ c.answer-k.ensures.value c.answer-k.ensures.out_after))
