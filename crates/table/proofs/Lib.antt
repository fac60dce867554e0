pub mod Laws
pub mod HeaderLaws
pub mod SlotLaws
pub mod QueueLaws
