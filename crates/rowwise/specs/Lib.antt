-- What the contracts of `rowwise` cite (Nearest, Rows), and what is proved of it.
pub mod Nearest
pub mod NearestLaws
pub mod Rows
pub mod Step
pub mod Pieces
pub mod RowLaws
pub mod Examples
