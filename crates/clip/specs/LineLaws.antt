-- Point by point gives the points and the ends of the definition's runs, of a line as a list of points. Assumes nothing.
use Rattle.std.specs.Prelude.{ℕ, ◌+◌, ◌≡◌, Bool}
use Rattle.std.proofs.Math.Path.{refl, ap}
use Rattle.std.proofs.Common.{sym, ◌∙◌}
use Rattle.std.proofs.Math.Bool.{false}
use mathlib.Core.List.{List, [], ◌∷◌, ◌++◌}
use Rattle.std.proofs.Math.ListN.{length}
use Rattle.geom.specs.declared.point.P.{P}
use Rattle.outlines.specs.declared.rule.FillRule.{FillRule}
use Rattle.rules.specs.Calls.{sewn_points, sewn_ends}
use Rattle.rules.specs.CallLaws.{ends_length}
use Rattle.patterns_rules.specs.Patterns.{piece_inside, clip_inside}
use Rattle.clip.specs.Clip.{added, ended, points_from, ends_from}
use Rattle.clip.specs.ClipLaws.{points_are, ends_are}

-- ---- a line of at least one point, p first

module _ (rings : List (List P)) (rule : FillRule) (p : P) (rest : List P) where
  pub line_points : sewn_points (clip_inside (p ∷ rest) rings rule) ≡ points_from rings rule false p rest
  unfolding clip_inside
  line_points = points_are rings rule false [] refl p rest

  pub line_ends : sewn_ends 0 (clip_inside (p ∷ rest) rings rule) ≡ ends_from rings rule false 0 p rest
  unfolding clip_inside
  line_ends = ends_are rings rule false [] refl 0 p rest

  pub line_runs : length (clip_inside (p ∷ rest) rings rule) ≡ length (ends_from rings rule false 0 p rest)
  line_runs = sym (ends_length 0 (clip_inside (p ∷ rest) rings rule)) ∙ ap length line_ends

-- ---- the piece from p to q is next, and is kept or not; or none is left

module _ (rings : List (List P)) (rule : FillRule) (on : Bool) (p : P) where
  module _ (q : P) (rest : List P) {k : Bool} (t : k ≡ piece_inside rings rule p q) where
    pub points_piece : points_from rings rule on p (q ∷ rest) ≡ added k on p q ++ points_from rings rule k q rest
    unfolding points_from
    points_piece = rw t

    pub ends_piece : (n : ℕ) → ends_from rings rule on n p (q ∷ rest) ≡ ended k on n ++ ends_from rings rule k (n + length (added k on p q)) q rest
    unfolding ends_from
    ends_piece n = rw t

  pub points_last : points_from rings rule on p [] ≡ []
  unfolding points_from
  points_last = refl

  pub ends_last : (n : ℕ) → ends_from rings rule on n p [] ≡ ended false on n
  unfolding ends_from
  ends_last n = refl
