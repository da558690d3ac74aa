-- What the contracts of `column` cite (Sized, Turned, Topping, Halves), and what is proved of it.
pub mod Sized
pub mod SizedLaws
pub mod Turned
pub mod TurnedLaws
pub mod Topping
pub mod ToppingLaws
pub mod Halves
pub mod HalvesLaws
pub mod CallLaws
