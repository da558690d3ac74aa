-- What the code of cross stitch goes by (Cells), and what is proved of cells, runs and rows.
pub mod Cells
pub mod CellsLaws
pub mod BoundLaws
pub mod SideLaws
pub mod GridLaws
pub mod RunLaws
pub mod RowLaws
pub mod ScanLaws
pub mod Most
