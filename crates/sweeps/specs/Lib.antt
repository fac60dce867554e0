pub mod Promise
pub mod Steps
pub mod StateLaws
pub mod SweepLaws
pub mod DrainLaws
