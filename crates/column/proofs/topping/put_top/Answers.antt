-- `put_top` meets its contract: what is turned round is what was just put. Assumes nothing.
use native.Mathlib.Omega.{arith}
use lib.ListN.{length-reverse}
use Rattle.geom.specs.Outline.{points}
use Rattle.geom.specs.SewingLaws.{flat_length}
use Rattle.satinrules.specs.Column.{styled}
use Rattle.column.specs.ToppingLaws.{top_length, top_on, top_off, lent_end, lent_even, turned_put}
use Rattle.column.proofs.topping.put_top.Goals as goal

pub put_styled-to-requires : goal.put_styled-to-requires
put_styled-to-requires c =
    let a = c.args in
    let ps = points a.path.now in
    omega (arith, c.requires, top_length a.far a.g ps, flat_length (styled a.g.split a.g.style ps))

pub slice_bounds-turn_round-end : goal.slice_bounds-turn_round-end
slice_bounds-turn_round-end c =
    let a = c.args in
    let m = styled a.g.split a.g.style (points a.path.now) in
    lent_end a.out.now _ m a.k c.put_styled-to.result (omega (arith, c.requires, top_length a.far a.g (points a.path.now), flat_length m)) c.put_styled-to.ensures.0 c.put_styled-to.ensures.1

pub turn_round-requires : goal.turn_round-requires
turn_round-requires c =
    let a = c.args in
    let m = styled a.g.split a.g.style (points a.path.now) in
    lent_even a.out.now _ m a.k c.put_styled-to.result (omega (arith, c.requires, top_length a.far a.g (points a.path.now), flat_length m)) c.put_styled-to.ensures.0 c.put_styled-to.ensures.1

pub returns-then-far : goal.returns-then-far
returns-then-far c =
    let a = c.args in
    let ps = points a.path.now in
    let m = styled a.g.split a.g.style ps in
    rw (top_on a.far a.g ps c.if-far.true)
    (turned_put a.out.now _ m a.k c.put_styled-to.result (omega (arith, c.requires, top_length a.far a.g ps, flat_length m)) c.put_styled-to.ensures.0 c.put_styled-to.ensures.1 _ c.turn_round.ensures, omega (arith, c.put_styled-to.ensures.1, flat_length m, length-reverse m))

pub returns : goal.returns
returns c =
    let a = c.args in
    let ps = points a.path.now in
    let m = styled a.g.split a.g.style ps in
    rw (top_off a.far a.g ps c.if-far.false) (c.put_styled-to.ensures.0, omega (arith, c.put_styled-to.ensures.1, flat_length m))
