-- What the contracts of `sections` cite, and its laws.
pub mod Mark
pub mod MarkLaws
pub mod MarkEntries
pub mod MarkFrame
pub mod RowEnds
pub mod AllRows
pub mod Marked
pub mod Rises
pub mod RiseLaws
pub mod RiseProps
