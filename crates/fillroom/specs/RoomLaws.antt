-- What the gate's finding makes of the room. Assumes nothing.
use Rattle.std.specs.Prelude.{ℕ, ◌*◌, ◌/◌, ◌%◌, ◌≤◌, ◌≡◌, ◌&&◌, List, eqb, length, Float}
use Rattle.std.proofs.Common.{mul-le-mul, arith, ◌∙◌}
use Rattle.std.proofs.Math.Path.{refl, ap}
use Rattle.std.proofs.Math.Dec.{leb}
use borrow.Author.Tests.{leb-true, ne_eqb}
use Rattle.refusal.specs.Refusal.{DONE}
use Rattle.seqs.specs.Tests.{and_both}
use Rattle.seqs.specs.Capped.{capped_in}
use Rattle.geom.specs.Outline.{rings, rising}
use Rattle.limits.specs.Limits.{good_outline}
use Rattle.rules.specs.declared.Settings.{Settings}
use Rattle.rules.specs.Fill.{edges, row_numbers, gate}
use Rattle.rules.specs.Accepted.{Accepted, laid_out, checked}
use Rattle.edges.specs.declared.rows.Rows.{Rows}
use Rattle.edges.specs.Span.{rows_of}
use Rattle.fillroom.specs.Room.{room_for, room_of}

-- half the corners times the rows
pub few_pieces : (corners rows : ℕ) → corners ≤ 1024 → rows ≤ 4096 → corners / 2 * rows ≤ 2097152
few_pieces corners rows c r = let h : corners / 2 ≤ 512 = omega (arith, c) in mul-le-mul h r

module _ (corners : List Float) (ends : List ℕ) (g : Settings) (stagger : ℕ) where
  pub room_refused : (n : ℕ) → gate corners ends g stagger DONE ≡ n → 1 ≤ n → record { answer = n; floats = 0; wholes = 0 } ≡ room_of corners ends g stagger
  unfolding room_of
  room_refused n e h = rw (e, ne_eqb n 0 (λ z. omega (arith, h, z))) refl

  module _ (accepted : Accepted corners ends g stagger) (w : Rows) (rows : w ≡ rows_of g (edges g (rings corners ends))) where
    pub few_corners : length corners / 2 ≤ 1024
    unfolding good_outline
    few_corners =
        let one = and_both (eqb (length corners % 2) 0 && leb (length ends) 255 && leb (length corners / 2) 1024) (rising 0 ends (length corners / 2)) (laid_out corners ends g stagger accepted) in
        leb-true (length corners / 2) 1024 (and_both (eqb (length corners % 2) 0 && leb (length ends) 255) (leb (length corners / 2) 1024) one.0).1

    rows_are : w.n ≡ length (row_numbers g (edges g (rings corners ends)))
    unfolding rows_of
    rows_are = ap (λ (w : Rows). w.n) rows ∙ capped_in 4096 (length (row_numbers g (edges g (rings corners ends)))) (checked corners ends g stagger accepted).rows

    pub few_rows : w.n ≤ 4096
    few_rows = rw rows_are (checked corners ends g stagger accepted).rows

    pub room_open : room_for (length corners / 2) w.n ≡ room_of corners ends g stagger
    unfolding room_of
    room_open = rw (accepted, rows_are) refl
