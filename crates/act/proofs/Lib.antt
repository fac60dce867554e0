pub mod Changed
pub mod Stored
pub mod Opening
pub mod Keeping
pub mod Leaving
