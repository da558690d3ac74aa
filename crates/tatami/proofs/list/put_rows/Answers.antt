-- The row numbers, one by one. Assumes nothing.
use mathlib.Core.Path.{◌≡◌, ap, ◌∙◌}
use mathlib.Core.List.{◌++◌, map}
use native.Mathlib.Omega.{arith}
use Prim.Native.Nat.{◌-◌}
use Prim.Native.Nat.{◌<◌}
use lib.Seq.{length-take-le}
use Rattle.std.proofs.lemmas.List.{get_or-take}
use lib.ListN.{drop, get_or, length-map}
use Rattle.seqs.specs.Lists.{upto}
use Rattle.seqs.specs.Front.{front_start, front_at, front_push, front_end}
use Rattle.seqs.specs.Upto.{upto_next, upto_none, upto_length}
use mir.Syntax.{w64}
use mir.ValLaws.{to_z-of_z}
use Rattle.edges.specs.Span.{row_number}
use Rattle.tatami.specs.Stages.{rows_in}
use borrow.Author.Rules.{rules}
use Rattle.tatami.proofs.list.put_rows.Goals as goal

pub loop-i-init : goal.loop-i-init
loop-i-init c = let e : c.args.n - 0 ≡ c.args.n = omega arith in rw e (front_start _ _)

pub row_number-requires : goal.row_number-requires
row_number-requires c = let below : c.loop-i.i < c.args.n = omega (arith, length-take-le c.args.n c.args.numbers.now c.requires.1) in (c.requires.2, rw (get_or-take c.args.n c.args.numbers.now c.loop-i.i 0 below) (c.requires.3 c.loop-i.i below))

pub loop-i-preserved : goal.loop-i-preserved
loop-i-preserved c =
    let a = c.args in
    let below : c.loop-i.i < a.n = omega (arith, length-take-le a.n a.numbers.now c.requires.1) in
    let v = to_z-of_z w64 c.row_number.result (record { sfits = c.row_number.type_inv }) ∙ c.row_number.ensures in
    rw (v, get_or-take a.n a.numbers.now c.loop-i.i 0 below) (front_push (front_at (ap (map (λ j. row_number a.w a.upward (get_or a.numbers.now j 0))) (upto_next a.n c.loop-i.i below)) c.loop-i.invariant) (omega (arith, c.loop-i.invariant.len, c.requires.0)))

pub shape_of-out : goal.shape_of-out
shape_of-out c = c.loop-i.invariant.len

pub returns : goal.returns
unfolding rows_in
returns c =
    let a = c.args in
    front_end (front_at (ap (map (λ j. row_number a.w a.upward (get_or a.numbers.now j 0))) (upto_none a.n c.loop-i.i (search rules))) c.loop-i.invariant)
    ∙ ap (λ k. rows_in a.w a.upward a.n a.numbers.now ++ drop k a.out.now) (length-map (upto 0 a.n) (λ j. row_number a.w a.upward (get_or a.numbers.now j 0)) ∙ upto_length 0 a.n)
