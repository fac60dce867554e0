pub mod Slot
pub mod Act
pub mod Freed
pub mod Acting
