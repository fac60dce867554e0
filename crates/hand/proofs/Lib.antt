pub mod SlotLaws
pub mod Listing
pub mod Sizes
pub mod Back
pub mod Writing
pub mod Closing
pub mod Hand
