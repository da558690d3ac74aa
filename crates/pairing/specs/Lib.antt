-- What the contracts of `pairing` cite (Walk, Store), and what is proved of it.
pub mod Walk
pub mod Store
pub mod WalkLaws
pub mod StoreLaws
pub mod LaidLaws
pub mod Walking
pub mod WalkingLaws
pub mod Laying
pub mod LayingLaws
pub mod EndsLaws
