-- `put_lengths` meets its contract: a zero, and then the running lengths of the corners that the iterator has left. Assumes nothing.
use Rattle.std.proofs.Common.{arith, sym, ap, ◌∙◌, ◌≡◌, ◌+◌, ◌≤◌, ◌++◌, ◌∷◌, ℕ, List, length, take}
use Rattle.std.specs.Float.Ieee.{Float, of_bits}
use Rattle.numbers.specs.Num.{zero64}
use Rattle.seqs.specs.Put.{put_none}
use Rattle.seqs.specs.Front.{Front, front_from, front_at, front_room, front_push}
use Rattle.seqs.specs.Wrote.{put_room, put_end}
use Rattle.geom.specs.declared.point.P.{P}
use Rattle.geom.specs.Outline.{points}
use Rattle.satinrules.specs.Arc.{lengths_from, lengths}
use Rattle.arc.proofs.put_lengths.Goals as goal

-- the first is a zero
begun : (d : List Float) (k : ℕ) (ps : List P) (p : P) (rest : List P) → k + length (lengths ps) ≤ length d → ps ≡ p ∷ rest → Front d d k (zero64 ∷ lengths_from zero64 p rest) (take k d ++ lengths ps)
unfolding lengths
begun d k ps p rest h e = front_at (ap lengths e) (front_from d (lengths ps) k (omega (arith, h)))

pub returns-in_default : goal.returns-in_default
unfolding lengths
returns-in_default c = rw (sym c.of-corners.ensures ∙ c.in_default.ensures.steps.0) (put_none c.args.out.now c.args.k (omega (arith, c.requires)))

pub bounds-out-k : goal.bounds-out-k
bounds-out-k c =
    let a = c.args in
    let f = begun a.out.now a.k (points a.pts.now) c.in-Some.p c.next.new.self c.requires (sym c.of-corners.ensures ∙ c.in-Some.ensures.steps) in
    front_room f (put_room a.out.now (lengths (points a.pts.now)) a.k c.requires)

pub overflow_add-to : goal.overflow_add-to
overflow_add-to c =
    let a = c.args in
    let f = begun a.out.now a.k (points a.pts.now) c.in-Some.p c.next.new.self c.requires (sym c.of-corners.ensures ∙ c.in-Some.ensures.steps) in
    omega (arith, front_room f (put_room a.out.now (lengths (points a.pts.now)) a.k c.requires), c.well_formed)

pub loop-q-init : goal.loop-q-init
unfolding of_bits
loop-q-init c =
    let a = c.args in
    let f = begun a.out.now a.k (points a.pts.now) c.in-Some.p c.next.new.self c.requires (sym c.of-corners.ensures ∙ c.in-Some.ensures.steps) in
    rw c.into_iter-q-iterator.ensures.into_iter_gives (front_push f (front_room f (put_room a.out.now (lengths (points a.pts.now)) a.k c.requires)))

pub bounds-out-to : goal.bounds-out-to
unfolding lengths_from
bounds-out-to c =
    let a = c.args in
    let l = c.loop-q in
    let f = front_at (ap (lengths_from l.s l.p) c.in-Some-q.ensures.steps) l.invariant in
    front_room f (put_room a.out.now (lengths (points a.pts.now)) a.k c.requires)

pub loop-q-preserved : goal.loop-q-preserved
unfolding lengths_from
loop-q-preserved c =
    let a = c.args in
    let l = c.loop-q in
    let f = front_at (ap (lengths_from l.s l.p) c.in-Some-q.ensures.steps) l.invariant in
    rw c.dist-s.ensures (front_push f (front_room f (put_room a.out.now (lengths (points a.pts.now)) a.k c.requires)))

pub shape_of-out : goal.shape_of-out
shape_of-out c = c.loop-q.invariant.len

pub returns : goal.returns
unfolding lengths_from
returns c =
    let a = c.args in
    let l = c.loop-q in
    (put_end (lengths (points a.pts.now)) a.k (omega (arith, c.requires)) (front_at (ap (lengths_from l.s l.p) c.in-None.ensures.steps.0) l.invariant)).0
