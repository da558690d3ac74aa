-- What the contracts of `sweep` cite (Swept), and what is proved of it: Exact has the theorem that a caller wants.
pub mod Swept
pub mod SweptLaws
pub mod Merge
pub mod MergeLaws
pub mod Met
pub mod Alone
pub mod Exact
pub mod LaidLaws
pub mod Laying
pub mod LayingLaws
pub mod Pieces
pub mod Step
