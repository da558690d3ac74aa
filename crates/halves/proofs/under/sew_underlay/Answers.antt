-- `sew_underlay` meets its contract: what is counted is what the room is compared with. Assumes nothing.
use Rattle.std.proofs.Common.{ℕ, ap}
use Rattle.refusal.specs.Refusal.{DONE}
use mathlib.Core.Path.{refl, sym, ◌∙◌}
use native.Mathlib.Omega.{arith}
use lib.ListN.{length}
use Rattle.satinrules.specs.Column.{underlay}
use Rattle.satinrules.specs.Calls.{rails_of}
use Rattle.satin.specs.UnderlayLaws.{underlay_count_lem}
use Rattle.halves.specs.SewingLaws.{too_many, has_room, all_fit}
use Rattle.halves.proofs.under.sew_underlay.Goals as goal

pub count_underlay-points-requires : goal.count_underlay-points-requires
count_underlay-points-requires c = (c.requires.small_n, c.requires.small_m)

pub returns-then-points-out : goal.returns-then-points-out
returns-then-points-out c =
    let a = c.args in
    let e = c.count_underlay-points.ensures ∙ sym (underlay_count_lem a.g c.requires.run c.requires.zigzag) in
    rw (too_many (underlay (rails_of a.rails.a.now a.rails.b.now a.rails.course.sync.now) a.g) (length a.out.now) e c.if-points-out.true) (refl, refl, refl)

pub put_underlay-requires : goal.put_underlay-requires
put_underlay-requires c =
    let a = c.args in
    let e = c.count_underlay-points.ensures ∙ sym (underlay_count_lem a.g c.requires.run c.requires.zigzag) in
    (c.requires.run, c.requires.zigzag, omega (arith, c.requires.room_n), omega (arith, c.requires.room_m), has_room (underlay (rails_of a.rails.a.now a.rails.b.now a.rails.course.sync.now) a.g) (length a.out.now) e c.if-points-out.false)

pub returns : goal.returns
returns c =
    let a = c.args in
    let e = c.count_underlay-points.ensures ∙ sym (underlay_count_lem a.g c.requires.run c.requires.zigzag) in
    rw (all_fit (underlay (rails_of a.rails.a.now a.rails.b.now a.rails.course.sync.now) a.g) (length a.out.now) e c.if-points-out.false) (ap (λ (n : ℕ). record { answer = DONE; points = n }) e, c.put_underlay.ensures.0, c.put_underlay.ensures.2)
