pub mod PacketForm
pub mod PacketLemmas
pub mod PacketTheorems
pub mod RecordForm
pub mod RecordRead
pub mod RecordWrite
pub mod RecordTheorems
