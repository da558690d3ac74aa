-- Theorems that rest on others of specs/: a wrong definition breaks those, and these can then not be read.
pub mod Ieee754
pub mod Laws
pub mod RootBounds
pub mod RootNearest
pub mod Roots
pub mod SquareRoots
