pub mod Rest
pub mod Turns
pub mod Tunnel
