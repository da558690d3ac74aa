-- `start_at` meets its contract. Assumes nothing.
use native.Mathlib.Omega.{arith}
use mathlib.Core.Path.{refl, sym, ◌∙◌}
use Rattle.geom.specs.Rings.{rings_of}
use Rattle.meander_rules.specs.Meander.{link_ok}
use Rattle.wander.specs.WayLaws.{some_columns}
use Rattle.wander.specs.RoundLaws.{first_sized, first_low, first_top, first_size, begun_ready, last_room, round_is, round_between, round_long, round_none}
use Rattle.wander.proofs.walk.start_at.Goals as goal

pub is_free-requires : goal.is_free-requires
is_free-requires c = omega (arith, c.requires.room)

pub invariant_of-ground : goal.invariant_of-ground
invariant_of-ground c = let a = c.args in let link = link_ok (rings_of a.area.outline) a.area.rule a.g in
    record { some = some_columns a.g.columns a.g.rows a.k (first_low a.g link a.k a.w.now a.t c.requires (sym c.is_free.ensures ∙ c.if-is_free.true)) }

pub go_on-s-requires : goal.go_on-s-requires
go_on-s-requires c = let a = c.args in let b = c.requires in let link = link_ok (rings_of a.area.outline) a.area.rule a.g in let f = sym c.is_free.ensures ∙ c.if-is_free.true in
    (first_sized a.g link a.k a.w.now a.t b f, first_low a.g link a.k a.w.now a.t b f, first_top a.g link a.k a.w.now a.t b f, first_size a.g link a.k a.w.now a.t b f)

pub walk-e-requires : goal.walk-e-requires
walk-e-requires c = let a = c.args in let b = c.requires in let link = link_ok (rings_of a.area.outline) a.area.rule a.g in let f = sym c.is_free.ensures ∙ c.if-is_free.true in
    begun_ready a.g link a.k a.w.now a.t b f _ c.go_on-s.result c.go_on-s.ensures

pub bounds-w-at : goal.bounds-w-at
bounds-w-at c = let a = c.args in let b = c.requires in let link = link_ok (rings_of a.area.outline) a.area.rule a.g in let f = sym c.is_free.ensures ∙ c.if-is_free.true in
    last_room a.g link a.k a.w.now a.t b f _ c.go_on-s.result c.go_on-s.ensures _ c.walk-e.result c.walk-e.ensures

pub overflow_add-result : goal.overflow_add-result
overflow_add-result c = record { fits = omega (arith, c.requires.ends, c.requires.few) }

pub shape_of-w-then-is_free : goal.shape_of-w-then-is_free
shape_of-w-then-is_free c = let a = c.args in let b = c.requires in let link = link_ok (rings_of a.area.outline) a.area.rule a.g in let f = sym c.is_free.ensures ∙ c.if-is_free.true in
    round_long a.g link a.k a.w.now a.t b f _ c.go_on-s.result c.go_on-s.ensures _ c.walk-e.result c.walk-e.ensures

pub returns-then-is_free : goal.returns-then-is_free
returns-then-is_free c = let a = c.args in let b = c.requires in let link = link_ok (rings_of a.area.outline) a.area.rule a.g in let f = sym c.is_free.ensures ∙ c.if-is_free.true in
    (round_is a.g link a.k a.w.now a.t b f _ c.go_on-s.result c.go_on-s.ensures _ c.walk-e.result c.walk-e.ensures, round_between a.g link a.k a.w.now a.t b f _ c.go_on-s.result c.go_on-s.ensures _ c.walk-e.result c.walk-e.ensures, round_long a.g link a.k a.w.now a.t b f _ c.go_on-s.result c.go_on-s.ensures _ c.walk-e.result c.walk-e.ensures)

pub returns : goal.returns
returns c = let a = c.args in (round_none a.g (link_ok (rings_of a.area.outline) a.area.rule a.g) a.k a.w.now a.t (sym c.is_free.ensures ∙ c.if-is_free.false), c.requires, refl)
