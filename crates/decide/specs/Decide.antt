-- What one packet will do, in the words of the rules: steps 1 to 4 and the refusals Full and Spent, on the flows as its sweep will leave
-- them.
use Rattle.forms.specs.Refusals.{stop_number}
use Rattle.std.specs.Prelude.{ℕ, ◌+◌, ◌*◌, ◌≤◌, ◌<◌, ◌≡◌, true, false, not, cond, List, map, length, None, Option, Some}
use Rattle.slots.specs.Table.{slot, slots, is_used}
use Rattle.index.specs.Hash.{hash_of}
use Rattle.index.specs.Index.{Indexed}
use Rattle.flow.specs.Counting.{opened_of}
use Rattle.flow.specs.declared.record.FlowRecord.{FlowRecord}
use Rattle.flow.specs.declared.record.Direction.{Direction}
use Rattle.flow.specs.declared.record.Direction.TheVariants.{Forward}
use Rattle.wire.specs.declared.packet.Packet.{Packet}
use Rattle.wire.specs.PacketTheorems.{PacketInRange}
use Rattle.rules.specs.Rules.{Settings, Flow, Taker, old, new, reused, apart, taker, taking, ending, is_full, is_spent}
use Rattle.rules.specs.Engine.{engine, key_bytes}
use Rattle.rules.specs.Slots.{Slots, keep, meaning}
use Rattle.state.specs.Slot.{flow_in}
use Rattle.state.specs.State.{SoundFlows, slots_of}
use Rattle.plan.specs.Plan.{leaves_by}
use Rattle.hand.specs.Acting.{at, emptied_at}
use Rattle.decide.specs.declared.decide.Decision.{Decision}

-- ## The flows as the packet's sweep will leave them

-- the slots as the sweep to clock w will leave them: a flow that leaves counts as gone
unfoldable pub staying_slots : ℕ → ℕ → ℕ → List (List ℕ) → Slots engine
staying_slots T L w table = map (keep engine (λ f. not (leaves_by T L w f))) (slots_of table)

-- the same by the engine's settings
abbrev pub swept_slots : Settings → List ℕ → ℕ → Slots engine
swept_slots S s w = staying_slots S.T S.L w (slots s S.capacity)

-- slot i has a flow that stays
pub record Stays (s : List ℕ) (c T L w i : ℕ) : Type 0 where
  pub low : i < c
  pub used : is_used (slot s i) ≡ true
  pub stays : leaves_by T L w (flow_in (slot s i)) ≡ false

-- ## The steps on a table of slots

-- the flow that step 1 ends
abbrev pub ended_flow : Packet → Slots engine → Option (Flow engine)
ended_flow p l = reused engine p (meaning engine l)

-- the flows that step 1 leaves
abbrev pub left_flows : Packet → Slots engine → List (Flow engine)
left_flows p l = apart engine (ended_flow p l) (meaning engine l)

-- what takes the packet in step 2
abbrev pub taker_on : Packet → Slots engine → Taker engine
taker_on p l = taker engine p (left_flows p l)

-- a flow takes the packet in this direction; where there is none, one opens
abbrev pub taker_of : Option (Flow engine) → Direction → Taker engine
taker_of None d = new
taker_of (Some f) d = old d f

-- the record that takes the packet, before it
abbrev pub held_before : Settings → Packet → Taker engine → FlowRecord
held_before S p (old d f) = f.held
held_before S p new = opened_of S.resolution p.key.protocol p.facts

-- ## What is asked

-- a ready state, its index, a packet in range, the bytes of its key
pub record DecideAsked (s : List ℕ) (c : ℕ) (index : List ℕ) (p : Packet) (bytes : List ℕ) : Type 0 where
  pub size : 256 + 640 * c ≤ length s
  pub indexed : Indexed hash_of index s c
  pub flows : SoundFlows s c
  pub in_range : PacketInRange p
  pub key : bytes ≡ key_bytes p.key

-- ## What is answered

-- steps 1 and 2: which flow ends without the packet, which takes it, and where they sit
pub record Chosen (s : List ℕ) (c T L w : ℕ) (p : Packet) (ended slot : Option ℕ) (direction : Direction) : Type 0 where
  pub ended_is : at (staying_slots T L w (slots s c)) ended ≡ ended_flow p (staying_slots T L w (slots s c))
  pub ended_sits : (i : ℕ) → ended ≡ Some i → Stays s c T L w i
  pub slot_sits : (i : ℕ) → slot ≡ Some i → Stays s c T L w i
  pub apart : (i : ℕ) → slot ≡ Some i → ended ≡ Some i → ⊥
  pub taker_is : taker_of (at (emptied_at ended (staying_slots T L w (slots s c))) slot) direction ≡ taker_on p (staying_slots T L w (slots s c))
  pub opens_forward : slot ≡ None → direction ≡ Forward

-- the whole decision
pub record Decided (S : Settings) (s : List ℕ) (w : ℕ) (p : Packet) (r : Decision) : Type 0 where
  -- steps 1 and 2
  pub direction : Direction
  pub chosen : Chosen s S.capacity S.T S.L w p r.ended r.slot direction
  -- Full, judged after the sweep and step 1, or Spent
  pub refusal : stop_number r.refusal ≡ cond (is_full engine S (left_flows p (swept_slots S s w)) (taker_on p (swept_slots S s w))) 5
      (cond (is_spent engine p (taker_on p (swept_slots S s w))) 6 0)
  -- step 3; a refused packet is not counted
  pub name : r.name ≡ (taking engine S p (taker_on p (swept_slots S s w))).name
  pub record_is : stop_number r.refusal ≡ 0 → r.«record» ≡ (taking engine S p (taker_on p (swept_slots S s w))).held
  pub record_kept : ((stop_number r.refusal) ≡ 0 → ⊥) → r.«record» ≡ held_before S p (taker_on p (swept_slots S s w))
  -- step 4
  pub reason : r.reason ≡ ending engine (ended_flow p (swept_slots S s w)) p (taker_on p (swept_slots S s w))
