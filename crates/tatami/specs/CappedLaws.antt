-- Whether the outputs have room, by a count of the points that stops past the room. Assumes nothing.
use Rattle.std.specs.Prelude.{ℕ, ◌*◌, ◌/◌, ◌≤◌, ◌<◌, ◌≡◌, List, Float}
use Rattle.std.proofs.Common.{arith}
use Rattle.std.proofs.Math.ListN.{length}
use borrow.Author.Tests.{le-leb, lt-leb}
use Rattle.refusal.specs.Refusal.{DONE, ROOM}
use Rattle.seqs.specs.Slices.{capped}
use Rattle.seqs.specs.Capped.{capped_exact, capped_past}
use Rattle.geom.specs.declared.point.P.{P}
use Rattle.rules.specs.Calls.{sewn_points}
use Rattle.tatami.specs.Stages.{sewn_room}

module _ (ss : List (List P)) (points : List Float) (ends : List ℕ) where
  module _ {c : ℕ} (e : c ≡ capped (length points / 2) (length (sewn_points ss))) where
    pub room_points : length points / 2 < c → sewn_room ss points ends ≡ ROOM
    room_points h = rw (lt-leb (2 * length (sewn_points ss)) (length points) (omega (arith, capped_past (length points / 2) (length (sewn_points ss)) e h)))

    pub points_are : c ≤ length points / 2 → c ≡ length (sewn_points ss)
    points_are h = capped_exact (length points / 2) (length (sewn_points ss)) e h

    pub points_fit : c ≤ length points / 2 → 2 * length (sewn_points ss) ≤ length points
    points_fit h = omega (arith, points_are h)

    pub room_enough : c ≤ length points / 2 → length ss ≤ length ends → sewn_room ss points ends ≡ DONE
    room_enough h k = rw (le-leb (2 * length (sewn_points ss)) (length points) (points_fit h), le-leb (length ss) (length ends) k)
