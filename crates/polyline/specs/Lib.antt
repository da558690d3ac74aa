-- What the contracts of `polyline` cite (Line, Cuts), and what is proved of it.
pub mod Line
pub mod Cuts
pub mod CutsLaws
pub mod AlikeLaws
