-- What the contracts of `laying` cite (Laying), and what is proved of it.
pub mod Laying
pub mod LayingLaws
