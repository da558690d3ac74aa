-- The only open place that the piece overlaps, where it is alone there and the link is inside. Assumes nothing.
use Rattle.std.proofs.Common.{sym, ◌∙◌}
use Rattle.geom.specs.Rings.{rings_of}
use Rattle.sections.specs.Mark.{piece_in, over}
use Rattle.sections.specs.RiseLaws.{only_at_lem, joins_nothing, joins_at_lem}
use Rattle.sections.proofs.joins.Goals as goal

pub returns-in_err-t : goal.returns-in_err-t
returns-in_err-t c =
    let a = c.args in
    let f = rw c.piece_at-p.ensures at c.only_open.ensures.0 in
    rw c.from_residual.ensures (joins_nothing (rings_of a.area.outline) a.area.rule a.g a.l.pieces.now a.wholes.now a.l.s a.j (sym c.in_err-t.was ∙ f), tt)

pub meets_one-requires : goal.meets_one-requires
meets_one-requires c =
    let a = c.args in
    let f = rw c.piece_at-p.ensures at c.only_open.ensures.0 in
    let h = only_at_lem (over a.l.pieces.now (piece_in a.l.pieces.now a.j)) a.l.s.b0 a.l.s.r0 _ (sym c.in_ok-t.was ∙ f) in
    (c.requires.2, c.requires.1, rw c.entry_at-o.ensures h)

pub returns-then-not-meets_one : goal.returns-then-not-meets_one
returns-then-not-meets_one c =
    let a = c.args in
    let f = rw c.piece_at-p.ensures at c.only_open.ensures.0 in
    let e = joins_at_lem (rings_of a.area.outline) a.area.rule a.g a.l.pieces.now a.wholes.now a.l.s a.j (sym c.in_ok-t.was ∙ f) in
    let m = rw c.entry_at-o.ensures at c.meets_one.ensures in
    (rw (sym m ∙ c.if-not-meets_one.true) at e, tt)

pub returns-then-connects : goal.returns-then-connects
returns-then-connects c =
    let a = c.args in
    let f = rw c.piece_at-p.ensures at c.only_open.ensures.0 in
    let e = joins_at_lem (rings_of a.area.outline) a.area.rule a.g a.l.pieces.now a.wholes.now a.l.s a.j (sym c.in_ok-t.was ∙ f) in
    let m = rw c.entry_at-o.ensures at c.meets_one.ensures in
    let k = rw (c.piece_at-p.ensures, c.entry_at-o.ensures) at c.connects.ensures in
    (rw (sym m ∙ c.if-not-meets_one.false, sym k ∙ c.if-connects.true) at e, rw c.in_ok-t.was at c.only_open.ensures.1)

pub returns : goal.returns
returns c =
    let a = c.args in
    let f = rw c.piece_at-p.ensures at c.only_open.ensures.0 in
    let e = joins_at_lem (rings_of a.area.outline) a.area.rule a.g a.l.pieces.now a.wholes.now a.l.s a.j (sym c.in_ok-t.was ∙ f) in
    let m = rw c.entry_at-o.ensures at c.meets_one.ensures in
    let k = rw (c.piece_at-p.ensures, c.entry_at-o.ensures) at c.connects.ensures in
    (rw (sym m ∙ c.if-not-meets_one.false, sym k ∙ c.if-connects.false) at e, tt)
