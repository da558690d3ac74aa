-- The definitions: what is near, and which points are neighbours (Apart). The theorems about them (Theorems), with examples that compute (Examples).
-- On the way: what one rounding errs by (Errors), the operations in units (Values), the distance along an axis (Gaps), the arithmetic of whole numbers (Laws),
-- the exact distance from the one worked out (Distances), where the steps of a way end (Ways), the sizes of what is sewn through (Sizes).
pub mod Apart
pub mod Errors
pub mod Values
pub mod Gaps
pub mod Laws
pub mod Distances
pub mod Sizes
pub mod Examples
