-- What the contracts of `outlines` cite (Winding, Runs, Heights, Sides, Inside), and what is proved of it.
pub mod Winding
pub mod Runs
pub mod Heights
pub mod Sides
pub mod Inside
pub mod WindingLaws
pub mod LeftLaws
pub mod SidesLaws
pub mod HeightsLaws
pub mod Ks
