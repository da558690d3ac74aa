-- What the contracts of `finding` cite (Stages), and what is proved of it.
pub mod Stages
pub mod FindLaws
pub mod SizeLaws
