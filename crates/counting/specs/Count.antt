-- A packet counted in a slot: which words it touches, and what is asked of the slot.
use Rattle.std.specs.Prelude.{ℕ, ◌+◌, ◌*◌, ◌≤◌, ◌<◌, List, length}
use Rattle.slots.specs.Table.{slot}
use Rattle.flow.specs.Counting.{RoomToCount}
use Rattle.flow.specs.declared.record.Direction.{Direction}
use Rattle.flow.specs.declared.record.PacketFacts.{PacketFacts}
use Rattle.state.specs.Slot.{record_in}
use Rattle.hand.specs.Slot.{HasRecord}

-- where a direction's words begin: behind the eleven shared ones, or behind the forward direction's too
abbrev pub first_word : Direction → ℕ
first_word Direction.Forward = 11
first_word Direction.Reverse = 24

-- slot i is one of the state's c, its words are those of a record, and the record has room for the packet
pub record CountAsked (c i : ℕ) (p : PacketFacts) (s : List ℕ) : Type 0 where
  pub size : 256 + 640 * c ≤ length s
  pub low : i < c
  pub record_there : HasRecord s i
  pub room : RoomToCount (record_in (slot s i)) p
