-- What the answer of `bounds` means (Said), that a meaning has one answer (SaidLaws), and that no cast loses anything (Keeps).
pub mod Said
pub mod SaidLaws
pub mod Keeps
