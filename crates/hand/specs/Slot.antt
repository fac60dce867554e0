-- A slot that is read, and the flow of a slot as it is handed out.
use Rattle.std.specs.Prelude.{ℕ, ◌+◌, ◌*◌, ◌≤◌, ◌≡◌, true, List, length}
use Rattle.slots.specs.Table.{slot}
use Rattle.words.specs.Words.{words_fit}
use Rattle.wire.specs.declared.record.Flow.{Flow}
use Rattle.rules.specs.Rules.{Finished}
use Rattle.rules.specs.Engine.{engine, finished_flow}
use Rattle.state.specs.Slot.{words_in, SoundSlot}

-- slot i lies in the state, and its words are those of a record
pub record HasRecord (s : List ℕ) (i : ℕ) : Type 0 where
  pub size : 256 + 624 * i + 624 ≤ length s
  pub fit : words_fit (words_in (slot s i)) ≡ true

-- slot i lies in the state, and its bytes are those of a flow
pub record HasFlow (s : List ℕ) (i : ℕ) : Type 0 where
  pub size : 256 + 624 * i + 624 ≤ length s
  pub sound : SoundSlot (slot s i)

-- a finished flow as it is written
abbrev pub flow_as : Finished engine → Flow
flow_as f = finished_flow f.name f.reason f.held
