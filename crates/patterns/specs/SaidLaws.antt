-- A meaning has one answer: so a contract through `said_box` allows one outcome. Assumes nothing.
use Rattle.std.specs.Prelude.{◌≡◌}
use Rattle.std.proofs.Common.{ap}
use Rattle.refusal.specs.AnswerLaws.{done_one, done_refused, refused_done, refused_one}
use Rattle.patterns_rules.specs.declared.Bounds.{Bounds}
use Rattle.patterns.specs.Said.{Box, Around, Refused, said_box}

pub box_one : (r s : Box) → said_box r ≡ said_box s → r ≡ s
box_one (Around p) (Around q) e = ap Around (done_one e)
box_one (Around p) (Refused n) e = absurd (done_refused e)
box_one (Refused m) (Around q) e = absurd (refused_done e)
box_one (Refused m) (Refused n) e = ap Refused (refused_one Bounds e)
