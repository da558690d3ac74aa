-- What the code of the walks goes by (Walking), and what is proved of it.
pub mod Walking
pub mod SliceLaws
pub mod WayLaws
pub mod MarkLaws
pub mod OpenLaws
pub mod TurnSlices
pub mod RoundLaws
