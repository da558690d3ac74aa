-- A row's pieces that are left, by where their scan stands. Definitions only.
use Rattle.std.specs.Prelude.{◌≤◌, List, length}
use Rattle.geom.specs.Rings.{rings_of}
use Rattle.rules.specs.Fill.{edges}
use Rattle.sweep.specs.declared.piece.Span.{Span}
use Rattle.rowwise.specs.declared.piece.Pieces.TheInside.{Inside}
use Rattle.rowwise.specs.Nearest.{Clear, left_after}
use Rattle.rowwise.specs.Rows.{Scanning}

abbrev pub left : Inside → List Span
left s = left_after s.cut (edges s.g (rings_of s.outline)) s.scan s.after

pub record Walking (s : Inside) : Type 0 where
  pub few : length s.outline.corners.now ≤ 2048
  pub clear : Clear s.cut.y (edges s.g (rings_of s.outline))
  pub scanning : Scanning s.cut (edges s.g (rings_of s.outline)) s.scan s.after
