-- The machines' sheet book: its bytes, what each call answers and leaves, and what is proved of it.
pub mod Fetched
pub mod Book
pub mod BookLaws
pub mod FetchLaws
pub mod KeepLaws
pub mod Back
pub mod Stored
pub mod Fetches
pub mod Examples
