-- What is asked and promised where one packet's flows end or stay. Assumes nothing.
use Rattle.std.specs.Prelude.{ℕ, ◌≤◌, ◌<◌, ◌≡◌, List, length, None, Option, Some}
use Rattle.memory.specs.Bytes.{patch}
use Rattle.slots.specs.Table.{slot, slots}
use Rattle.key.specs.declared.key.FlowKey.{FlowKey}
use Rattle.flow.specs.declared.time.EndReason.TheVariants.{Fin}
use Rattle.flow.specs.declared.record.FlowRecord.{FlowRecord}
use Rattle.rules.specs.Rules.{ended, ended_for}
use Rattle.rules.specs.Engine.{engine, written}
use Rattle.rules.specs.EngineLaws.{SoundFlow}
use Rattle.rules.specs.Slots.{Slots}
use Rattle.state.specs.Slot.{key_in}
use Rattle.state.specs.State.{slots_of}
use Rattle.state.specs.Free.{free_count}
use Rattle.hand.specs.Acting.{Busy, at, emptied_at}
use Rattle.act.specs.Keep.{flow_under, Sits, OldFlow, NewFlow, kept_slots}
use Rattle.flow.specs.declared.time.EndReason.{EndReason}

-- the bytes are at the front of the output, and the answer is their length
pub record Filled (bs room out : List ℕ) (r : ℕ) : Type 0 where
  pub output : out ≡ patch room 0 bs
  pub bytes : r ≡ length bs

-- ## Step 1

-- a slot with a flow, if there is one, and room for its record
pub record EndAsked (c T : ℕ) (found : Option ℕ) (s index free out : List ℕ) : Type 0 where
  pub busy : Busy c T s index free
  pub sits : (i : ℕ) → found ≡ Some i → Sits c s i
  pub room : length (written (ended engine Fin (at (slots_of (slots s c)) found))) ≤ length out

-- ## Steps 3 and 4

-- a slot with the flow under this key, if there is one
pub record LeaveAsked (c T : ℕ) (found : Option ℕ) (name : FlowKey) (s index free : List ℕ) : Type 0 where
  pub busy : Busy c T s index free
  pub sits : (i : ℕ) → found ≡ Some i → Sits c s i
  pub own : (i : ℕ) → found ≡ Some i → key_in (slot s i) ≡ name

-- a flow in its slot, or a new one, with a free slot where it stays; and room for its record where it ends
pub record SettleAsked (c T : ℕ) (found : Option ℕ) (name : FlowKey) (bytes : List ℕ) (r : FlowRecord) (reason : Option EndReason) (s index free out : List ℕ) : Type 0 where
  pub busy : Busy c T s index free
  pub flow : SoundFlow name r
  pub unended : r.time.end_reason ≡ None
  pub old : (i : ℕ) → found ≡ Some i → OldFlow c name r s i
  pub new : found ≡ None → NewFlow c name bytes s
  pub open_room : found ≡ None → reason ≡ None → 0 < free_count free
  pub room : length (written (ended_for engine reason (flow_under name r))) ≤ length out

-- the slots with the flow kept, or without it
abbrev pub settled_slots : Option ℕ → Option EndReason → ℕ → FlowKey → FlowRecord → Slots engine → Slots engine
settled_slots found None last name r l = kept_slots found last (flow_under name r) l
settled_slots found (Some e) last name r l = emptied_at found l
