-- What the contracts of `fill_job` and `fill_job2` cite (Desk, Desk2), what the program prints (Listing), the laws behind them, and what is proved of them.
pub mod Desk
pub mod DeskLaws
pub mod Desk2
pub mod Desk2Laws
pub mod Listing
pub mod ListingLaws
pub mod Theorems
pub mod Ks
