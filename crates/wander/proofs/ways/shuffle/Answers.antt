-- `shuffle` meets its contract: i places are left to be swapped. Assumes nothing.
use native.Mathlib.Omega.{arith}
use native.Mathlib.Nat.{mod-lt}
use mathlib.Core.Path.{◌≡◌, refl, sym, ap, ◌∙◌}
use Prim.Native.Nat.{◌+◌, ◌-◌, ◌%◌, ◌<◌}
use lib.ListN.{length, set, get_or}
use Rattle.std.proofs.lemmas.List.Edits.{swap_is}
use Rattle.meander_rules.specs.Meander.{next_seed, shuffle}
use Rattle.wander.specs.WayLaws.{shuffle_turn, shuffle_end}
use borrow.Author.Rules.{rules}
use Rattle.wander.proofs.ways.shuffle.Goals as goal

pub loop-i-init : goal.loop-i-init
unfolding shuffle
loop-i-init c = refl

pub loop-i-preserved : goal.loop-i-preserved
loop-i-preserved c =
    let l = c.loop-i in
    let x = next_seed l.x in
    let e : l.i - 1 + 1 ≡ l.i = omega arith in
    let h : l.i - 1 < length l.order = omega arith in
    let k : x % l.i < length l.order = omega (arith, mod-lt x {m = l.i} (omega arith)) in
    let s : c.swap.new.self ≡ set (set l.order (l.i - 1) (get_or l.order (x % l.i) 0)) (x % l.i) (get_or l.order (l.i - 1) 0) = rw (c.next_seed-x.ensures, e) at c.swap.ensures.after ∙ sym (swap_is l.order (l.i - 1) (x % l.i) 0 h k) in
    rw (s, c.next_seed-x.ensures) (sym (shuffle_turn l.order l.x l.i (search rules)) ∙ l.invariant)

pub returns : goal.returns
returns c = let l = c.loop-i in let e = sym (shuffle_end l.order l.x l.i (omega arith)) ∙ l.invariant in (ap (λ o. o.order) e, ap (λ o. o.seed) e)
