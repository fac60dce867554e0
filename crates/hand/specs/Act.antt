-- What the functions that act on a list of slots ask and promise.
use Rattle.std.specs.Prelude.{ℕ, ◌+◌, ◌*◌, ◌≤◌, ◌<◌, ◌≡◌, true, List, [], ◌∷◌, map, length, take, set}
use Rattle.memory.specs.Bytes.{patch}
use Rattle.queue.specs.Tree.{node}
use Rattle.slots.specs.Table.{slot, is_used}
use Rattle.table.specs.View.{View, view, slot_of, with_slot}
use Rattle.flow.specs.declared.time.EndReason.{EndReason}
use Rattle.key.specs.declared.key.FlowKey.{FlowKey}
use Rattle.wire.specs.declared.record.Flow.{Flow}
use Rattle.wire.specs.RecordForm.{record_bytes}
use Rattle.rules.specs.Totals.{All}
use Rattle.rules.specs.Rules.{finish_or}
use Rattle.rules.specs.Engine.{engine, written}
use Rattle.state.specs.Slot.{key_in, flow_in, SoundSlot}
use Rattle.state.specs.Ready.{Ready}
use Rattle.state.specs.Names.{Once, flows_of, NamesAllBut, QueueOnly, OpenSlot}
use Rattle.hand.specs.Slot.{flow_as}

-- ## A list of slots

-- .. whose bytes are sound
pub record SoundOpen (c : ℕ) (table : List (List ℕ)) (i : ℕ) : Type 0 where
  pub low : i < c
  pub used : is_used (slot_of table i) ≡ true
  pub sound : SoundSlot (slot_of table i)

-- a state, and a list of open slots
pub record Listed (c : ℕ) (s leaving : List ℕ) (n : ℕ) : Type 0 where
  pub size : 256 + 640 * c ≤ length s
  pub most : c ≤ 4096
  pub few : n ≤ c
  pub long : n ≤ length leaving
  pub slots : All (SoundOpen c (view c s).table) (take n leaving)

-- ## The queue names the list again

-- a state, and a list of the open slots that its queue does not name
pub record Asked (c T : ℕ) (s leaving : List ℕ) (n : ℕ) : Type 0 where
  pub size : 256 + 640 * c ≤ length s
  pub most : c ≤ 4096
  pub few : n ≤ c
  pub long : n ≤ length leaving
  pub none : T ≡ 0 → n ≡ 0
  pub slots : All (OpenSlot c (view c s).table) (take n leaving)
  pub names : NamesAllBut c T (view c s).table (view c s).tree (take n leaving)

-- only the queue has changed, though not its spare node 0, and it names every open flow
pub record PutBack (c T : ℕ) (v v' : View) : Type 0 where
  pub same : QueueOnly v v'
  pub spare : node v'.tree 0 ≡ node v.tree 0
  pub names : NamesAllBut c T v.table v'.tree []

-- ## The list is handed out

-- the flow's record stands at the front of the output
pub record Wrote (flow : Flow) (room out : List ℕ) (r : ℕ) : Type 0 where
  pub output : out ≡ patch room 0 (record_bytes flow)
  pub bytes : r ≡ length (record_bytes flow)

-- the bytes of a slot that is given back
abbrev pub freed_slot : List ℕ → List ℕ
freed_slot b = patch b 0 (0 ∷ [])

-- slot i is the open slot of a ready state, under this key
pub record CloseAsked (c i : ℕ) (key : FlowKey) (s index free : List ℕ) : Type 0 where
  pub size : 256 + 640 * c ≤ length s
  pub low : i < c
  pub used : is_used (slot s i) ≡ true
  pub own : key ≡ key_in (slot s i)
  pub ready : Ready s c index free

-- slot i was given back, and the state is ready still
pub record Closed (c i : ℕ) (s s' index free : List ℕ) : Type 0 where
  pub state : view c s' ≡ with_slot i (freed_slot (slot_of (view c s).table i)) (view c s)
  pub ready : Ready s' c index free

-- slot i is an open slot of a ready state, and there is room for its record
pub record OneAsked (c i : ℕ) (other : EndReason) (s index free out : List ℕ) : Type 0 where
  pub size : 256 + 640 * c ≤ length s
  pub low : i < c
  pub used : is_used (slot s i) ≡ true
  pub ready : Ready s c index free
  pub room : length (record_bytes (flow_as (finish_or engine other (flow_in (slot s i))))) ≤ length out

-- the records of the list, one behind another
abbrev pub records_of : EndReason → List (List ℕ) → List ℕ → List ℕ
records_of other table listed = written (map (finish_or engine other) (flows_of table listed))

-- a ready state, a list of its open slots, none twice, and room for their records
pub record HandAsked (c : ℕ) (other : EndReason) (s leaving : List ℕ) (n : ℕ) (index free out : List ℕ) : Type 0 where
  pub size : 256 + 640 * c ≤ length s
  pub most : c ≤ 4096
  pub few : n ≤ c
  pub long : n ≤ length leaving
  pub slots : All (OpenSlot c (view c s).table) (take n leaving)
  pub once : Once (take n leaving)
  pub ready : Ready s c index free
  pub room : length (records_of other (view c s).table (take n leaving)) ≤ length out

-- the table with every slot of the list given back
abbrev pub freed_all : List ℕ → List (List ℕ) → List (List ℕ)
freed_all [] table = table
freed_all (i ∷ is) table = freed_all is (set table i (freed_slot (slot_of table i)))

-- the slots of the list are given back, nothing else of the state has changed, and their records are at the front of the output
pub record Handed (c : ℕ) (other : EndReason) (v v' : View) (listed room out : List ℕ) (r : ℕ) : Type 0 where
  pub header : v'.header ≡ v.header
  pub tree : v'.tree ≡ v.tree
  pub rest : v'.rest ≡ v.rest
  pub table : v'.table ≡ freed_all listed v.table
  pub output : out ≡ patch room 0 (records_of other v.table listed)
  pub bytes : r ≡ length (records_of other v.table listed)
