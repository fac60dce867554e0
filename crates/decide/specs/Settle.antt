-- Steps 3 and 4 of one packet and its refusals, by what steps 1 and 2 chose.
use Rattle.forms.specs.Refusals.{stop_number}
use Rattle.std.specs.Prelude.{ℕ, ◌+◌, ◌≤◌, ◌≡◌, Bool, not, cond, ◌&&◌, List, eqb, None, Option, Some, is_some}
use Rattle.slots.specs.Table.{slot}
use Rattle.flow.specs.Counting.{opened_of, counted_of, has_room, RoomToCount}
use Rattle.flow.specs.declared.time.EndReason.{EndReason}
use Rattle.flow.specs.declared.time.EndReason.TheVariants.{Fin, Rst}
use Rattle.flow.specs.declared.time.TimeResolution.{TimeResolution}
use Rattle.flow.specs.declared.record.Direction.{Direction}
use Rattle.flow.specs.declared.record.Direction.TheVariants.{Forward, Reverse}
use Rattle.flow.specs.declared.record.FlowRecord.{FlowRecord}
use Rattle.flow.specs.declared.record.PacketFacts.{PacketFacts}
use Rattle.key.specs.Key.{reversed_key}
use Rattle.key.specs.declared.key.FlowKey.{FlowKey}
use Rattle.wire.specs.declared.packet.Packet.{Packet}
use Rattle.wire.specs.PacketTheorems.{PacketInRange}
use Rattle.rules.specs.Engine.{engine, both_fins}
use Rattle.state.specs.Slot.{record_in}
use Rattle.hand.specs.Slot.{HasFlow}
use Rattle.decide.specs.declared.choose.Choice.{Choice}
use Rattle.decide.specs.declared.decide.Decision.{Decision}

-- the slot that takes the packet, if there is one, has a sound flow
abbrev pub SlotSound : List ℕ → Option ℕ → Type 0
SlotSound s found = (i : ℕ) → found ≡ Some i → HasFlow s i

-- the record that takes the packet, before it
abbrev pub record_before : List ℕ → Option ℕ → TimeResolution → Packet → FlowRecord
record_before s (Some i) resolution p = record_in (slot s i)
record_before s None resolution p = opened_of resolution p.key.protocol p.facts

-- unless it is refused, the packet has room in the record
abbrev pub RoomUnless : ℕ → FlowRecord → PacketFacts → Type 0
RoomUnless refusal before facts = refusal ≡ 0 → RoomToCount before facts

-- the record with the packet counted, unless it is refused
abbrev pub record_after : ℕ → FlowRecord → Direction → PacketFacts → FlowRecord
record_after refusal before direction facts = cond (eqb refusal 0) (counted_of before direction facts) before

-- step 4, by whether step 1 ended a flow, RST is set, and both FINs had been seen
abbrev pub ending_by : Bool → Bool → Bool → Option EndReason
ending_by ended rst closed = cond ended None (cond rst (Some Rst) (cond closed (Some Fin) None))

-- the name of the flow that takes a packet under this key
abbrev pub name_by : FlowKey → Direction → FlowKey
name_by key Forward = key
name_by key Reverse = reversed_key key

-- how many slots step 1 frees
abbrev pub freed_by : Option ℕ → ℕ
freed_by (Some i) = 1
freed_by None = 0

-- 5 Full, 6 Spent, or 0
abbrev pub refusal_by : ℕ → Option ℕ → Option ℕ → Bool → ℕ
refusal_by room ended slot fits = cond (not (is_some slot) && eqb (room + freed_by ended) 0) 5 (cond fits 0 6)

-- a sound flow or none to take a packet in range
pub record SettleAsked (s : List ℕ) (room : ℕ) (p : Packet) (slot : Option ℕ) : Type 0 where
  pub sound : SlotSound s slot
  pub in_range : PacketInRange p
  pub few : room ≤ 4096

-- the decision by what was chosen
pub record Settled (s : List ℕ) (room : ℕ) (resolution : TimeResolution) (p : Packet) (choice : Choice) (r : Decision) : Type 0 where
  pub ended : r.ended ≡ choice.ended
  pub slot : r.slot ≡ choice.slot
  pub refusal : stop_number r.refusal ≡ refusal_by room choice.ended choice.slot (has_room (record_before s choice.slot resolution p) p.facts)
  pub name : r.name ≡ name_by p.key choice.direction
  pub record_is : r.«record» ≡ record_after (stop_number r.refusal) (record_before s choice.slot resolution p) choice.direction p.facts
  pub reason : r.reason ≡ ending_by (is_some choice.ended) (engine.rst p) (both_fins (record_before s choice.slot resolution p))
