-- What the contracts of `styles` cite (Sides), and what is proved of it.
pub mod Sides
pub mod SidesLaws
pub mod FlatSides
pub mod SquareLaws
