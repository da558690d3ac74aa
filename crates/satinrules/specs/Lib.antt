-- What a satin column is (Settings, Arc, Pairs, Column, Calls), and what is proved of it.
pub mod Settings
pub mod SettingsLaws
pub mod Arc
pub mod Pairs
pub mod Column
pub mod Calls
pub mod CallLaws
pub mod Flat
pub mod Ks
