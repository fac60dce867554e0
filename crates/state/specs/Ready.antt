-- A sound state's flows with the call's own memory: the index of the used slots, and the list of the free ones. Assumes nothing.
use Rattle.std.specs.Prelude.{ℕ, List}
use Rattle.index.specs.Index.{Indexed}
use Rattle.index.specs.Hash.{hash_of}
use Rattle.state.specs.State.{SoundFlows}
use Rattle.state.specs.Free.{FreeSlots}

-- of the first n slots
pub record Ready (s : List ℕ) (n : ℕ) (index free : List ℕ) : Type 0 where
  pub flows : SoundFlows s n
  pub indexed : Indexed hash_of index s n
  pub unused : FreeSlots s n free
