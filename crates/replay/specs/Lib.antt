pub mod Input
pub mod Head
pub mod Pieces
pub mod Totals
pub mod Feed
