pub mod Size
pub mod Keep
pub mod Settle
pub mod Free
pub mod Clock
pub mod Whole
