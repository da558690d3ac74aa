-- A row's pieces that are left, by where their scan stands. Definitions only.
use Rattle.std.specs.Prelude.{◌≤◌, List, length, nat_abs}
use Rattle.sweep.specs.declared.piece.Span.{Span}
use Rattle.sweep.specs.declared.piece.Pieces.TheInside.{Inside}
use Rattle.sweep.specs.Swept.{rest_of}

abbrev pub left : Inside → List Span
left s = rest_of s.cut s.table.now s.places.now s.scan

pub record Scanning (s : Inside) : Type 0 where
  pub few : length s.places.now ≤ 100000
  pub within : s.scan.at ≤ length s.places.now
  pub small : nat_abs s.scan.w ≤ s.scan.at
