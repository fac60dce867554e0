pub mod Range
pub mod Counting
