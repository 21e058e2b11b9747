pub mod FrontLaws
pub mod HeldLaws
pub mod ImageLaws
pub mod LoopLaws
pub mod PutLaws
pub mod Relays
pub mod TextLaws
