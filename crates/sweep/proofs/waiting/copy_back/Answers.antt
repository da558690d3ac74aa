use Rattle.std.proofs.Common.{[], ◌∷◌, ◌+◌, ◌++◌, ◌<◌, ◌∙◌, sym, ap, length, get_or, add-one, arith, take-suc-set}
use Rattle.std.proofs.Math.Seq.{take-suc}
use Rattle.sweep.proofs.waiting.copy_back.Goals as goal

pub loop-i-preserved : goal.loop-i-preserved
loop-i-preserved c =
    let l = c.loop-i in
    let from = c.args.from.now in
    let h : l.i < length l.l = omega arith in
    let g : l.i < length from = omega (arith, c.requires) in
    rw add-one (take-suc-set l.l l.i (get_or from l.i 0) h ∙ ap (λ k. k ++ (get_or from l.i 0 ∷ [])) l.invariant ∙ sym (take-suc from l.i 0 g))
