-- `walks` meets its contract: the walks from the points from k on are still to be made. Assumes nothing.
use mathlib.Core.Path.{◌≡◌}
use Prim.Native.Nat.{◌-◌}
use lib.ListN.{length, take}
use Rattle.seqs.specs.Lists.{upto, fold}
use Rattle.geom.specs.Rings.{rings_of}
use Rattle.meander_rules.specs.Meander.{points_of, link_ok, start_at, walks_of}
use Rattle.wander.specs.Walking.{walks_in, Between}
use Rattle.wander.proofs.walk.walks.Given as goal

abbrev pub invariant-loop-k : goal.invariant-loop-k
invariant-loop-k l = Between (points_of l.g) l.w l.t × (length l.w ≡ length l.initial.w) × (fold (start_at l.g (link_ok (rings_of l.area.outline) l.area.rule l.g)) (walks_in (points_of l.g) l.w l.t) (upto l.k (points_of l.g - l.k)) ≡ walks_of l.g (link_ok (rings_of l.area.outline) l.area.rule l.g) (take (points_of l.g) l.initial.w) l.seed)
