-- What the two calls of a fill leave (Left), what the stages hand on (Stages), and the laws that join them.
pub mod Left
pub mod Stages
pub mod EntryLaws
pub mod RoomLaws
pub mod Outcomes
pub mod Found
pub mod WorkLaws
pub mod Way
pub mod WayLaws
pub mod CappedLaws
