-- Which number the finding of the pieces gives, and what it hands on. Assumes nothing.
use Rattle.std.specs.Prelude.{ℕ, ◌-◌, ◌*◌, ◌≤◌, ◌≡◌, Bool, List, take, drop, Float}
use Rattle.std.proofs.Common.{arith, subst, length-drop}
use Rattle.std.proofs.Math.ListN.{length}
use borrow.Author.Tests.{le-ltb}
use Rattle.refusal.specs.Refusal.{WORK, ROOM, unless}
use Rattle.seqs.specs.Parts.{tail_lent}
use Rattle.geom.specs.Outline.{rings}
use Rattle.rules.specs.Fill.{edges, need_floats, need_wholes, roomed}
use Rattle.rules.specs.CallLaws.{room_told}
use Rattle.finding.specs.declared.Plan.{Plan}
use Rattle.finding.specs.Stages.{Passed, Holds}
use Rattle.finding.specs.FindLaws.{few_edges}
use Rattle.tatami.specs.Found.{Found, Finding, FoundIn}
use Rattle.tatami.specs.Found.Found.{Short, Held}
use Rattle.tatami.specs.Stages.{Lent, list_of}

-- what was found in slices d and a, of the lengths lent
module _ (corners : List Float) (ends : List ℕ) (t : Plan) {d : List Float} {a : List ℕ} {r : Found} (f : FoundIn corners ends t d a r) where
  pub work_short : r ≡ Short → (floats wholes : ℕ) → length d ≡ floats → length a ≡ wholes → (fits : Bool) → roomed corners ends t.rule t.g t.upward floats wholes fits ≡ WORK
  unfolding roomed
  work_short e floats wholes same alike fits = rw (rw (same, alike) at (subst (Finding corners ends t d a) e f.is))

  module _ (e n : ℕ) (same : r ≡ Held e n) where
    pub held : Holds corners ends t e n d a
    held = subst (Finding corners ends t d a) same f.is

    pub work_held : (floats wholes : ℕ) → length d ≡ floats → length a ≡ wholes → (fits : Bool) → roomed corners ends t.rule t.g t.upward floats wholes fits ≡ unless ROOM fits
    unfolding roomed
    work_held floats wholes sf sw fits =
        let k = held in
        let edgesOf = length (edges t.g (rings corners ends)) in
        let pieces_of = length (list_of corners ends t) in
        rw (
          le-ltb floats (need_floats edgesOf pieces_of) (omega (arith, k.floats, k.count, k.pieces, sf)),
          le-ltb wholes (need_wholes edgesOf pieces_of) (omega (arith, k.wholes, k.count, k.pieces, sw)),
        )
        (room_told fits)

    pub held_few : Passed corners ends t → e ≤ 1024
    held_few p = omega (arith, held.count, few_edges corners ends t p)

    -- the part behind the edges, as it is lent
    pub lent_behind : Passed corners ends t → Lent corners ends t n (take (length d - 6 * e) (drop (6 * e) d)) (take (length a - 4 * e) (drop (4 * e) a))
    lent_behind p =
        rw (tail_lent d d (6 * e), tail_lent a a (4 * e))
        (record {
          passed = p;
          laid = held.laid;
          floats = omega (arith, held.floats, length-drop (6 * e) d);
          wholes = omega (arith, held.wholes, length-drop (4 * e) a);
        })
