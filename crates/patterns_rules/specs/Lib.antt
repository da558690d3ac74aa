-- What bounds, clipping and cross stitch are (Patterns), what their calls answer and leave (Answers), and what is proved of both.
pub mod Patterns
pub mod Answers
pub mod Ks
pub mod LineLaws
