-- The four calls of a column: who is turned away, in the order of document 01's table, and what a call leaves in each slice. Definitions only.
use Rattle.std.specs.Prelude.{ℕ, ◌+◌, ◌*◌, ◌/◌, ◌%◌, Bool, ◌&&◌, ◌||◌, cond, List, [], ◌∷◌, ◌++◌, leb, eqb, length, replicate, Float}
use Rattle.refusal.specs.Refusal.{DONE, LAYOUT, NUMBER, SETTING, SIZE, WORK, unless, ◌then◌}
use Rattle.refusal.specs.Sewn.{Sewn, sewn, output}
use Rattle.numbers.specs.Num.{zero64}
use Rattle.seqs.specs.Lists.{each, every, fold}
use Rattle.geom.specs.declared.point.P.{P}
use Rattle.geom.specs.Outline.{points}
use Rattle.limits.specs.Limits.{most_syncs, most_pairs, good_numbers, good_line, good_step, good_split}
use Rattle.geom.specs.Sewing.{flat, fitted}
use Rattle.geometry.specs.LineAnswers.{line}
use Rattle.satinrules.specs.declared.Pair.{Pair}
use Rattle.satinrules.specs.declared.Satin.{Satin}
use Rattle.satinrules.specs.Settings.{good_satin, zigzag_underlay_spacing}
use Rattle.satinrules.specs.Pairs.{Rails, ends_of, few, count_of, pairs}
use Rattle.satinrules.specs.Column.{only_if, bit, spacing_of, split_long, s_stitch, column}

-- ---- split_long and s_stitch

-- `room` is the length of the output slice
unfoldable pub split_refusal : List Float → Float → ℕ → ℕ
split_refusal l max room = line l then unless SETTING (good_split max) then fitted (split_long (points l) max) room

unfoldable pub split_sewn : List Float → Float → ℕ → Sewn
split_sewn l max room = sewn (split_refusal l max room) (length (split_long (points l) max))

unfoldable pub split_output : List Float → Float → List Float → List Float
split_output l max out = output (split_refusal l max (length out)) (flat (split_long (points l) max)) out

unfoldable pub s_stitch_refusal : List Float → ℕ → ℕ
s_stitch_refusal l room = line l then fitted (s_stitch (points l)) room

unfoldable pub s_stitch_sewn : List Float → ℕ → Sewn
s_stitch_sewn l room = sewn (s_stitch_refusal l room) (length (s_stitch (points l)))

unfoldable pub s_stitch_output : List Float → List Float → List Float
s_stitch_output l out = output (s_stitch_refusal l (length out)) (flat (s_stitch (points l))) out

-- ---- what pairs and column look at first: two rails and the sync points, each flat

unfoldable pub rails_of : List Float → List Float → List Float → Rails
rails_of a b sync = record { a = points a; b = points b; sync = points sync }

-- the layout of the sync points
unfoldable pub good_sync : List Float → Bool
good_sync l = eqb (length l % 2) 0 && leb (length l / 2) most_syncs

unfoldable pub good_rails : List Float → List Float → List Float → ℕ
good_rails a b sync =
    unless LAYOUT (good_line a) then unless LAYOUT (good_line b) then unless LAYOUT (good_sync sync)
    then unless NUMBER (good_numbers a) then unless NUMBER (good_numbers b) then unless NUMBER (good_numbers sync)

-- the passes that are sewn, by their steps: the underlay's, and the top's
unfoldable pub underlay_steps : Satin → List Float
underlay_steps g = only_if (bit g 1 || bit g 2) (g.run_len ∷ []) ++ only_if (bit g 4) (zigzag_underlay_spacing ∷ [])

unfoldable pub top_steps : Satin → List Float
top_steps g = spacing_of g ∷ []

unfoldable pub pass_steps : Satin → List Float
pass_steps g = underlay_steps g ++ top_steps g

-- at most 65,536 in any pass
unfoldable pub sized : Rails → List Float → Bool
sized r ss = every (λ s. leb (count_of (ends_of r) r.sync s) most_pairs) ss

abbrev pub most : ℕ → ℕ → ℕ
most m n = cond (leb m n) n m

-- the most pairs of any pass
unfoldable pub most_of : Rails → List Float → ℕ
most_of r ss = fold (λ s n. most n (length (pairs r s))) 0 ss

-- |a| + |b| + 2·(sync count) + 4 + 8N floats
unfoldable pub need : Rails → ℕ → ℕ
need r n = length r.a + length r.b + 2 * length r.sync + 4 + 8 * n

-- the answer of a call that sews `ps` from passes of these steps, for slices of `work` and `room` numbers
unfoldable pub passed : Rails → List Float → List P → ℕ → ℕ → ℕ
passed r ss ps work room = cond (few r) DONE (unless SIZE (sized r ss) then unless WORK (leb (need r (most_of r ss)) work) then fitted ps room)

-- a working slice: all zero after 0, 6 and 7, unchanged after 1 to 5
abbrev pub worked : ℕ → List Float → List Float
worked n w = cond (leb 1 n && leb n 5) w (replicate (length w) zero64)

-- ---- pairs

-- both points of each
unfoldable pub both_points : List Pair → List P
both_points ps = each (λ q. q.a ∷ q.b ∷ []) ps

unfoldable pub pairs_refusal : List Float → List Float → List Float → Float → ℕ → ℕ → ℕ
pairs_refusal a b sync step work room =
    let r = rails_of a b sync in
    good_rails a b sync then unless SETTING (good_step step) then passed r (step ∷ []) (both_points (pairs r step)) work room

-- a pair counts as two points
unfoldable pub pairs_sewn : List Float → List Float → List Float → Float → ℕ → ℕ → Sewn
pairs_sewn a b sync step work room = sewn (pairs_refusal a b sync step work room) (length (both_points (pairs (rails_of a b sync) step)))

unfoldable pub pairs_output : List Float → List Float → List Float → Float → ℕ → List Float → List Float
pairs_output a b sync step work out = output (pairs_refusal a b sync step work (length out)) (flat (both_points (pairs (rails_of a b sync) step))) out

unfoldable pub pairs_work : List Float → List Float → List Float → Float → List Float → ℕ → List Float
pairs_work a b sync step work room = worked (pairs_refusal a b sync step (length work) room) work

-- ---- column

unfoldable pub column_refusal : List Float → List Float → List Float → Satin → ℕ → ℕ → ℕ
column_refusal a b sync g work room =
    let r = rails_of a b sync in
    good_rails a b sync then unless SETTING (good_satin g) then passed r (pass_steps g) (column r g) work room

unfoldable pub column_sewn : List Float → List Float → List Float → Satin → ℕ → ℕ → Sewn
column_sewn a b sync g work room = sewn (column_refusal a b sync g work room) (length (column (rails_of a b sync) g))

unfoldable pub column_output : List Float → List Float → List Float → Satin → ℕ → List Float → List Float
column_output a b sync g work out = output (column_refusal a b sync g work (length out)) (flat (column (rails_of a b sync) g)) out

unfoldable pub column_work : List Float → List Float → List Float → Satin → List Float → ℕ → List Float
column_work a b sync g work room = worked (column_refusal a b sync g (length work) room) work
