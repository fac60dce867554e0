pub mod Plain
pub mod Tests
pub mod Laid
pub mod PlainLaws
