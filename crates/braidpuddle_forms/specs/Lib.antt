pub mod Facts
pub mod Keys
pub mod Forms
pub mod Host
pub mod FactLaws
pub mod Laws
