-- Working room that is always enough (Room), and the theorem that it is (Enough).
pub mod Room
pub mod RoomLaws
pub mod Enough
