-- What a fill is (Fill), what its calls answer and leave (Calls), and what is proved of both.
pub mod Fill
pub mod Calls
pub mod PieceTable
pub mod Ks
pub mod Alls
pub mod Sweep
pub mod Accepted
pub mod Edges
pub mod Keys
pub mod Rows
pub mod Rise
pub mod CallLaws
pub mod Drawn
