pub mod Batch
pub mod Feed
pub mod FeedOne
pub mod FeedLoop
pub mod FeedCall
pub mod Calls
