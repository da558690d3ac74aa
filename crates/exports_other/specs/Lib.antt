-- What the contracts of `exports_other` cite.
pub mod Borders
pub mod Mendings
pub mod Sheets
