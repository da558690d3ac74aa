-- A whole outline salvaged: what is dropped, what is left, and all that the call leaves behind. Definitions only.
use Rattle.std.specs.Prelude.{ℕ, ◌+◌, Bool, not, ◌&&◌, cond, List, [], ◌∷◌, map, leb, eqb, length, Float, Result, Ok, Err}
use Rattle.refusal.specs.Refusal.{DONE, LAYOUT, ROOM, number, unless, ◌then◌}
use Rattle.refusal.specs.declared.Refusal.{Refusal}
use Rattle.refusal.specs.Sewn.{output}
use Rattle.seqs.specs.Lists.{keep_if, sift, each}
use Rattle.geom.specs.declared.point.P.{P}
use Rattle.geom.specs.Outline.{rings}
use Rattle.geom.specs.Sewing.{flat}
use Rattle.limits.specs.Limits.{good_outline}
use Rattle.salvage.specs.declared.Counts.{Counts}
use Rattle.salvage.specs.Ring.{kept, ring_marks, kept_ring}

-- ---- what is dropped, in place order: marks of the corners from place i on

unfoldable pub marks : List Float → List ℕ → List ℕ
marks corners ends = each ring_marks (rings corners ends)

unfoldable pub dropped_places : ℕ → List ℕ → List ℕ
dropped_places i [] = []
dropped_places i (m ∷ ms) = keep_if (not (kept m)) i (dropped_places (i + 1) ms)

unfoldable pub dropped_reasons : List ℕ → List ℕ
dropped_reasons ms = sift (λ m. not (kept m)) ms

-- ---- what is left, in as many rings

unfoldable pub kept_rings : List Float → List ℕ → List (List P)
kept_rings corners ends = map kept_ring (rings corners ends)

-- where each ring ends, the first starting at n
unfoldable pub ring_ends : {A : Type 0} → ℕ → List (List A) → List ℕ
ring_ends n [] = []
ring_ends n (r ∷ rs) = (n + length r) ∷ ring_ends (n + length r) rs

unfoldable pub kept_corners : List Float → List ℕ → List Float
kept_corners corners ends = flat (each (λ r. r) (kept_rings corners ends))

unfoldable pub kept_ends : List Float → List ℕ → List ℕ
kept_ends corners ends = ring_ends 0 (kept_rings corners ends)

-- ---- the call

-- there is room in output slices of `cs` floats and of `es`, `ps` and `rs` whole numbers
unfoldable pub fits : List Float → List ℕ → ℕ → ℕ → ℕ → ℕ → Bool
fits corners ends cs es ps rs =
    leb (length (kept_corners corners ends)) cs
    && leb (length (kept_ends corners ends)) es
    && leb (length (dropped_places 0 (marks corners ends))) ps
    && leb (length (dropped_reasons (marks corners ends))) rs

unfoldable pub salvage_answer : List Float → List ℕ → ℕ → ℕ → ℕ → ℕ → ℕ
salvage_answer corners ends cs es ps rs = unless LAYOUT (good_outline corners ends) then unless ROOM (fits corners ends cs es ps rs)

-- what the call says: a number of document 01's table, how many corners are kept and how many dropped; none after a refusal
pub record Salvaged : Type 0 where
  pub answer : ℕ
  pub corners : ℕ
  pub dropped : ℕ

abbrev pub said_salvaged : Result Counts Refusal → Salvaged
said_salvaged (Ok c) = record { answer = DONE; corners = c.corners; dropped = c.dropped }
said_salvaged (Err e) = record { answer = number e; corners = 0; dropped = 0 }

-- what it says, by its number n
abbrev pub said : ℕ → ℕ → ℕ → Salvaged
said n corners dropped = cond (eqb n DONE) (record { answer = DONE; corners = corners; dropped = dropped }) (record { answer = n; corners = 0; dropped = 0 })

pub record Outcome : Type 0 where
  pub said : Salvaged
  pub corners : List Float
  pub ends : List ℕ
  pub places : List ℕ
  pub reasons : List ℕ

abbrev pub outcome : Salvaged → List Float → List ℕ → List ℕ → List ℕ → Outcome
outcome r cs es ps rs = record { said = r; corners = cs; ends = es; places = ps; reasons = rs }

-- by its number n, of the slices lent
unfoldable pub outcome_by : ℕ → List Float → List ℕ → List Float → List ℕ → List ℕ → List ℕ → Outcome
outcome_by n corners ends cs es ps rs =
    outcome (said n (length (each (λ r. r) (kept_rings corners ends))) (length (dropped_places 0 (marks corners ends))))
    (output n (kept_corners corners ends) cs) (output n (kept_ends corners ends) es)
    (output n (dropped_places 0 (marks corners ends)) ps) (output n (dropped_reasons (marks corners ends)) rs)

unfoldable pub salvage_outcome : List Float → List ℕ → List Float → List ℕ → List ℕ → List ℕ → Outcome
salvage_outcome corners ends cs es ps rs = outcome_by (salvage_answer corners ends (length cs) (length es) (length ps) (length rs)) corners ends cs es ps rs
