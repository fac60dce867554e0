pub mod Seeing
pub mod Turned
