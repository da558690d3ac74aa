-- What the contracts of `arc` cite (Rail), and what is proved of it.
pub mod Rail
pub mod RailLaws
pub mod WindowLaws
pub mod Rise
