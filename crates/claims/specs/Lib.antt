-- Document 01's checks K1 to K12 under one claim (Sheet), what a result says (Told), and one outcome for each call (OneOutcome) and for each C entry (Entries).
pub mod Sheet
pub mod Told
pub mod OneOutcome
pub mod Entries
