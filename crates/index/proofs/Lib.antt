pub mod Laws
pub mod Agree
pub mod Walk
pub mod Look
pub mod Shift
