-- What was found, listed, then zeros. Assumes nothing.
use Rattle.std.proofs.Common.{Err, rules, ◌≡◌, length, ◌∙◌, ap, sym, replicate}
use lib.Ieee.{of_bits}
use Rattle.rules.specs.Calls.{list_fits}
use Rattle.refusal.specs.Refusal.{ROOM, unless}
use Rattle.refusal.specs.declared.Refusal.TheVariants.{Work}
use Rattle.tatami.specs.Left.{said_listed}
use Rattle.finding.specs.FindLaws.{alone_count}
use Rattle.tatami.specs.RoomLaws.{noted_by}
use Rattle.tatami.specs.Stages.{Behind, list_of, Noted, told}
use Rattle.tatami.specs.Outcomes.{list_told}
use Rattle.tatami.proofs.list.list_found.Goals as goal
use Rattle.tatami.proofs.list.list_found.Goals.{in-Err, in-Ok}

pub returns : goal.returns
unfolding of_bits
returns c =
    let a = c.args in
    let es = list_of a.t.outline.corners.now a.t.outline.ends.now a.t in
    let fits = list_fits (length es) (length a.ys.now) (length a.rows.now) (length a.sections.now) in
    let noted : Noted (told a.found fits) es a.ys.now c.match-found.ys a.rows.now c.match-found.rows a.sections.now c.match-found.sections (said_listed c.match-found.r) =
    elim c.match-found.branch [
      | in-Err w ↦
          let e : w.in-Err.e ≡ Work = rw w.in-Err.is at c.requires in
          rw w.in-Err.is (ap said_listed (w.r-is ∙ ap Err e), w.ys-is, w.rows-is, w.sections-is)
      | in-Ok w ↦
          let k : Behind a.t.outline.corners.now a.t.outline.ends.now a.t w.in-Ok.f.edges w.in-Ok.f.pieces a.floats.now a.wholes.now = rw w.in-Ok.is at c.requires in
          let n = k.lent.laid.count ∙ alone_count a.t.outline.corners.now a.t.outline.ends.now a.t in
          let p = noted_by es a.ys.now a.rows.now a.sections.now (ap (λ k. unless ROOM (list_fits k (length a.ys.now) (length a.rows.now) (length a.sections.now))) (sym n)) w.list_pieces-r.ensures in
          rw w.in-Ok.is (ap said_listed w.r-is ∙ p.0, w.ys-is ∙ p.1, w.rows-is ∙ p.2, w.sections-is ∙ p.3)
    ]
    in
    list_told a.found fits a.floats.now a.wholes.now es a.ys.now a.rows.now a.sections.now noted (c.fill.ensures.after (search rules)) (c.fill-2.ensures.after (search rules) ∙ ap (λ n. replicate n 0) (search rules))
