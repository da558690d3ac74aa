-- What the contracts of `jobs` cite (Job, Job2, Text, and Framed of the functions inside), and what is proved of it.
pub mod Job
pub mod Job2
pub mod Text
pub mod Framed
pub mod JobLaws
pub mod Theorems
pub mod Job2Laws
pub mod Ks
pub mod Parsed
pub mod Parsed2
