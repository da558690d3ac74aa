use Rattle.sweep.proofs.Stripe.{gathered}
use Rattle.sweep.proofs.active.gather.Goals as goal

pub returns : goal.returns
returns c =
    let a = c.args in
    gathered a.upward a.table.now a.y a.live c.requires.0 c.retain-kept.ensures c.admit-r.ensures c.sort.ensures
