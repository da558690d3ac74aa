-- Working room that is always enough for the satin calls (Room), and the theorems that it is (Enough).
pub mod Room
pub mod RoomLaws
pub mod Enough
