-- What the contracts of `geom` cite (Point, Outline, Steps, Sewing), and what is proved of it.
pub mod Point
pub mod Outline
pub mod Steps
pub mod Sewing
pub mod OutlineLaws
pub mod SewingLaws
pub mod Rings
