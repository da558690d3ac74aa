-- The laws of the root that callers use and that rest on its being the nearest: the rest of specs/Laws. Assumes nothing.
-- it fits
pub use Rattle.numbers.proofs.Roots.{root_fits}
-- 0 ≤ x ≤ y makes root x ≤ root y
pub use Rattle.numbers.proofs.Roots.{root_mono}
-- never negative, finite of what is finite, above zero of what is above zero
pub use Rattle.numbers.proofs.Roots.{root_up, root_finite, root_above}
-- above zero it is the correctly rounded one (`IsRoot`)
pub use Rattle.numbers.proofs.Ieee754.{root_is}
-- 0 < x, 0 < y: x < y ⊗ y makes root x ≤ y, and y ⊗ y < x makes y ≤ root x
pub use Rattle.numbers.proofs.RootBounds.{root_under, root_over}
-- 2 ^ -500 ≤ y: the root of y ⊗ y is y, if that is finite and not rounded to zero
pub use Rattle.numbers.proofs.SquareRoots.{root_square}
-- n has half of it, from above and from below
pub use Rattle.numbers.proofs.RootBounds.{within_root, atleast_root}
