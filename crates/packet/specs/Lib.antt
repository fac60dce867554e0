pub mod Step
pub mod Meant
pub mod Handed
pub mod Doing
pub mod Steady
