-- `neighbours` meets its contract. Assumes nothing.
use native.Mathlib.Omega.{arith}
use mathlib.Core.Path.{◌≡◌, ap, ◌∙◌}
use mathlib.Core.List.{List, [], ◌++◌}
use Prim.Native.Nat.{ℕ, ◌+◌, ◌-◌, ◌/◌, ◌%◌, ◌≤◌, ◌<◌}
use lib.Dec.{ltb}
use Rattle.seqs.specs.Lists.{keep_if}
use Rattle.wander.specs.WayLaws.{some_columns, back_column, back_row, keep_same, ways_added}
use Rattle.wander.proofs.ways.neighbours.Goals as goal

-- a difference that doesn't wrap
back : (a b : ℕ) → b ≤ a → a < 18446744073709551616 → 0 < b → (a + (18446744073709551616 - b)) % 18446744073709551616 ≡ a - b
back a b h k p = omega arith

pub returns : goal.returns
returns c =
    let a = c.args in
    let w = a.g.columns in
    let x = keep_same (ltb 0 (a.here % w)) (λ t. back a.here 1 (back_column w a.here t) (omega arith) (omega arith)) in
    let y = keep_same (ltb 0 (a.here / w)) (λ t. back a.here w (back_row w a.here t) (omega arith) (some_columns w a.g.rows a.here c.requires.0)) in
    let left : c.push_if.new.ways.items ≡ keep_if (ltb 0 (a.here % w)) (a.here - 1) [] = c.push_if.ensures.0 ∙ rw c.new-ways.ensures x in
    let up : c.push_if-3.new.ways.items ≡ c.push_if-2.new.ways.items ++ keep_if (ltb 0 (a.here / w)) (a.here - w) [] = c.push_if-3.ensures.0 ∙ ap (λ (k : List ℕ). c.push_if-2.new.ways.items ++ k) y in
    rw (c.push_if-4.ensures.0, up, c.push_if-2.ensures.0, left) (ways_added a.g a.here)
