pub mod Decide
pub mod Search
pub mod Choose
pub mod Settle
pub mod Steady
pub mod PlainKey
