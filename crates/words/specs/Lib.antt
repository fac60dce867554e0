pub mod Fields
pub mod Words
pub mod FieldLaws
pub mod WordLaws
pub mod Kept
pub mod Counting
