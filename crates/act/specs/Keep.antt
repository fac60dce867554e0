-- What is asked and promised where the flow that took a packet stays open. Assumes nothing.
use Rattle.std.specs.Prelude.{ℕ, ◌+◌, ◌*◌, ◌≤◌, ◌<◌, ◌≡◌, true, false, cond, List, ◌∷◌, eqb, length, set, None, Option, Some}
use Rattle.memory.specs.Bytes.{patch}
use Rattle.queue.specs.Tree.{Sound}
use Rattle.slots.specs.Table.{slot, slots, is_used}
use Rattle.table.specs.View.{view, slot_of, with_slot}
use Rattle.table.specs.Due.{end_of, due_of, due_for, DuePut}
use Rattle.index.specs.Hash.{hash_of}
use Rattle.index.specs.Index.{home, entry_of, Inserted}
use Rattle.key.specs.Key.{reversed_key}
use Rattle.key.specs.KeyTheorems.{KeyInRange}
use Rattle.key.specs.declared.key.FlowKey.{FlowKey}
use Rattle.flow.specs.declared.record.FlowRecord.{FlowRecord}
use Rattle.rules.specs.Rules.{Flow, under}
use Rattle.rules.specs.Engine.{engine, key_bytes, is_association}
use Rattle.rules.specs.EngineLaws.{SoundFlow}
use Rattle.rules.specs.Slots.{Slots, meaning}
use Rattle.state.specs.Slot.{key_in}
use Rattle.state.specs.State.{slots_of}
use Rattle.state.specs.Free.{free_count, popped}
use Rattle.state.specs.Ready.{Ready}
use Rattle.state.specs.Change.{last_free}
use Rattle.hand.specs.Acting.{Busy}

-- ## The flow that took the packet

-- the flow with this key and record
abbrev pub flow_under : FlowKey → FlowRecord → Flow engine
flow_under k r = record { name = k; held = r }

-- slot i has a flow
pub record Sits (c : ℕ) (s : List ℕ) (i : ℕ) : Type 0 where
  pub low : i < c
  pub used : is_used (slot s i) ≡ true

-- slot i has the flow under this key, and the record ends no earlier: the flow's entry in the queue stays early enough
pub record OldFlow (c : ℕ) (name : FlowKey) (r : FlowRecord) (s : List ℕ) (i : ℕ) : Type 0 where
  pub sits : Sits c s i
  pub own : key_in (slot s i) ≡ name
  pub grows : end_of (slot s i) ≤ r.time.end.0

-- no flow is under this key, nor under the reversed key unless it is a security association's; and these are its bytes
pub record NewFlow (c : ℕ) (name : FlowKey) (bytes s : List ℕ) : Type 0 where
  pub alone : under engine (key_bytes name) (meaning engine (slots_of (slots s c))) ≡ None
  pub unturned : is_association name ≡ false → under engine (key_bytes (reversed_key name)) (meaning engine (slots_of (slots s c))) ≡ None
  pub key : bytes ≡ key_bytes name

-- a flow in its slot, or a new one and a free slot
pub record KeepAsked (c T : ℕ) (found : Option ℕ) (name : FlowKey) (bytes : List ℕ) (r : FlowRecord) (s index free : List ℕ) : Type 0 where
  pub busy : Busy c T s index free
  pub flow : SoundFlow name r
  pub unended : r.time.end_reason ≡ None
  pub old : (i : ℕ) → found ≡ Some i → OldFlow c name r s i
  pub new : found ≡ None → NewFlow c name bytes s
  pub room : found ≡ None → 0 < free_count free

-- the slots with the flow in the slot that was found, or else in the last of the free ones
abbrev pub kept_slots : Option ℕ → ℕ → Flow engine → Slots engine → Slots engine
kept_slots (Some i) last f l = set l i (Some f)
kept_slots None last f l = set l last (Some f)

-- ## A free slot is taken

-- a key with its bytes, and a free slot
pub record OpenAsked (c : ℕ) (name : FlowKey) (bytes s index free : List ℕ) : Type 0 where
  pub size : 256 + 640 * c ≤ length s
  pub ready : Ready s c index free
  pub in_range : KeyInRange name
  pub key : bytes ≡ key_bytes name
  pub room : 0 < free_count free

-- the last free slot has the key, the index has its entry, and it is free no more
pub record Opened (c : ℕ) (bytes s s' index index' free free' : List ℕ) (r : ℕ) : Type 0 where
  pub last : r ≡ last_free free
  pub state : view c s' ≡ with_slot r (patch (slot_of (view c s).table r) 0 (1 ∷ length bytes ∷ bytes)) (view c s)
  pub put : Inserted (home (hash_of bytes)) (entry_of (hash_of bytes) r) index index'
  pub list : free' ≡ popped free

-- ## The flow's slot

-- a slot that was found, or a key with its bytes and a free slot
pub record SeatAsked (c : ℕ) (found : Option ℕ) (name : FlowKey) (bytes s index free : List ℕ) : Type 0 where
  pub opens : found ≡ None → OpenAsked c name bytes s index free

-- nothing was done
pub record Unmoved (s s' index index' free free' : List ℕ) : Type 0 where
  pub state : s' ≡ s
  pub index_is : index' ≡ index
  pub list : free' ≡ free

-- the slot that was found, with nothing done; or a free slot that was taken
abbrev pub Seated : Option ℕ → (c : ℕ) (bytes s s' index index' free free' : List ℕ) (r : ℕ) → Type 0
Seated (Some i) c bytes s s' index index' free free' r = (r ≡ i) × Unmoved s s' index index' free free'
Seated None c bytes s s' index index' free free' r = Opened c bytes s s' index index' free free' r

-- ## Its entry in the queue

-- slot i of a state whose queue is sound
pub record EntryAsked (c i : ℕ) (s : List ℕ) : Type 0 where
  pub size : 256 + 640 * c ≤ length s
  pub low : i < c
  pub sound : Sound (view c s).tree c

-- the entry of a flow that ends at e: the one that it has, or where it is new its due time, or none where the timeout is 0
abbrev pub entry_for : Option ℕ → (T e now : ℕ) → ℕ
entry_for (Some i) T e now = now
entry_for None T e now = cond (eqb T 0) now (due_for e T)

-- slot i's flow has its entry, and nothing else has changed
abbrev pub Entered : (c T i : ℕ) (found : Option ℕ) (s s' : List ℕ) → Type 0
Entered c T i found s s' = DuePut c i (entry_for found T (end_of (slot s i)) (due_of c (view c s).tree i)) (view c s) (view c s')
