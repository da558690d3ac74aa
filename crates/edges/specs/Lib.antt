-- What the contracts of `edges` cite (Table), and what is proved of it.
pub mod Table
pub mod TableLaws
pub mod Span
pub mod SpanLaws
pub mod EdgeCount
pub mod Sides
pub mod SidesLaws
pub mod Kept
pub mod SideLaws
