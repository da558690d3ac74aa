-- From the last piece back. Assumes nothing.
use mathlib.Core.Path.{◌≡◌, refl}
use mathlib.Core.List.{List}
use Prim.Native.Nat.{ℕ, ◌+◌, ◌-◌, ◌<◌}
use native.Mathlib.Omega.{arith}
use lib.ListN.{length-set}
use Rattle.sewing.specs.Sewing.{Linking}
use Rattle.sewing.proofs.Chains.{chain_start, mark_is, mark_below, chain_next}
use borrow.Author.Rules.{rules}
use Rattle.sewing.proofs.links.chain.Goals as goal

before : {n sections : ℕ} {ns d₀ d : List ℕ} (i : ℕ) → 0 < i → Linking n sections i ns d₀ d → Linking n sections (i - 1 + 1) ns d₀ d
before i h l = let e : i - 1 + 1 ≡ i = omega arith in rw e l

pub loop-i-init : goal.loop-i-init
loop-i-init c = (search rules, chain_start c.args.n c.args.sections c.args.wholes.now c.requires.0 c.requires.1)

pub bounds-wholes-n-in-loop-i-3 : goal.bounds-wholes-n-in-loop-i-3
bounds-wholes-n-in-loop-i-3 c =
    let l = c.loop-i in
    rw length-set (omega (arith, l.invariant.1.size, c.requires.0.room, mark_below c.args.n c.args.sections c.args.wholes.now c.requires.0 (l.i - 1) (omega arith) l.wholes (before l.i (search rules) l.invariant.1)))

pub loop-i-preserved : goal.loop-i-preserved
loop-i-preserved c =
    let a = c.args in
    let l = c.loop-i in
    let k = before l.i (search rules) l.invariant.1 in
    let h : l.i - 1 < a.n = omega arith in
    (omega arith, chain_next a.n a.sections a.wholes.now c.requires.0 (l.i - 1) h l.wholes k _ _ (mark_is a.n a.sections a.wholes.now c.requires.0 (l.i - 1) h l.wholes k) refl (mark_below a.n a.sections a.wholes.now c.requires.0 (l.i - 1) h l.wholes k))
