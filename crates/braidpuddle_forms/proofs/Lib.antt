pub mod Reported
pub mod KeyAnswers
pub mod FormAnswers
pub mod HostAnswers
