pub mod Found
pub mod RawLaws
pub mod Writing
pub mod Written
