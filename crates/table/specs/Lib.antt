pub mod Header
pub mod View
pub mod Due
