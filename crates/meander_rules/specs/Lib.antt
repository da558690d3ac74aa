-- What a meander is (Meander), what its walks can reach (Reach), what its call answers and leaves (Answers), and what is proved of both.
pub mod Meander
pub mod Reach
pub mod Answers
pub mod Ks
pub mod FreeLaws
pub mod ShuffleLaws
pub mod TurnLaws
pub mod ReachLaws
