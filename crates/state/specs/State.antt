-- "Sound state" of document 01, sentence by sentence, with the layout's own conditions behind the same name; and what a state means.
-- Assumes nothing.
use Rattle.std.specs.Prelude.{ℕ, ◌+◌, ◌*◌, ◌^◌, ◌≤◌, ◌<◌, ◌≡◌, Bool, true, false, List, map, length}
use Rattle.memory.specs.Bytes.{part}
use Rattle.queue.specs.Tree.{never}
use Rattle.queue.specs.Tree as Tree
use Rattle.slots.specs.Table.{slot, slots, is_used, NoKeyTwice}
use Rattle.index.specs.Hash.{key_from}
use Rattle.index.specs.Reversed.{Unreversed}
use Rattle.table.specs.View.{view}
use Rattle.table.specs.Due.{due_of, end_of}
use Rattle.table.specs.Header.{header_of}
use Rattle.table.specs.declared.Header.{Header}
use Rattle.wire.specs.RecordForm.{resolution_from}
use Rattle.flow.specs.Idle.{timeout_of, lateness_of}
use Rattle.flow.specs.declared.time.Millis.{Millis}
use Rattle.key.specs.Key.{reversed_key}
use Rattle.rules.specs.Rules.{Settings, Engine}
use Rattle.rules.specs.Engine.{engine, key_bytes, is_association}
use Rattle.rules.specs.Slots.{Slots}
use Rattle.rules.specs.EngineSlots.{engine_of}
use Rattle.state.specs.Slot.{slot_flow, SoundSlot}

-- ## The header

abbrev pub header_in : List ℕ → Header
header_in s = header_of (part s 0 256)

abbrev pub capacity_in : List ℕ → ℕ
capacity_in s = (header_in s).capacity

-- a timeout in milliseconds that gives T
pub record GivenBy (T : ℕ) : Type 0 where
  pub timeout : Millis
  pub small : timeout.0 < 2 ^ 64
  pub gives : timeout_of timeout ≡ T

-- of a header in `bytes` bytes of memory
pub record SoundHeader (h : Header) (bytes : ℕ) : Type 0 where
  pub layout : h.layout ≡ 1
  -- "its stored capacity, itself 1 to 4096"
  pub some : 1 ≤ h.capacity
  pub most : h.capacity ≤ 4096
  -- "memory long enough for its stored capacity"
  pub long : 256 + 640 * h.capacity ≤ bytes
  -- "T, L and resolution that opening can give"
  pub timeout : GivenBy h.timeout.0
  pub lateness : h.lateness.0 ≡ lateness_of h.timeout.0
  pub resolution : h.resolution ≤ 1
  -- "W 0 if timeout is 0"
  pub still : h.timeout.0 ≡ 0 → h.clock.0 ≡ 0

-- ## The flows and the queue

-- the form of the reversed key, and whether the key is a security association's, of a key's form
abbrev pub turned : List ℕ → List ℕ
turned bytes = key_bytes (reversed_key (key_from bytes))

abbrev pub one_way : List ℕ → Bool
one_way bytes = is_association (key_from bytes)

-- the queue's entry for a slot: "the expiry queue empty if timeout is 0, else naming each open flow once and nothing else, never later
-- than its end + T"
pub record Queued (T : ℕ) (b : List ℕ) (due : ℕ) : Type 0 where
  pub empty : T ≡ 0 → due ≡ never
  pub nothing_else : is_used b ≡ false → due ≡ never
  pub named : (T ≡ 0 → ⊥) → is_used b ≡ true → due ≡ never → ⊥
  pub early : (T ≡ 0 → ⊥) → is_used b ≡ true → due ≤ end_of b + T

-- the flows of the first n slots
pub record SoundFlows (s : List ℕ) (n : ℕ) : Type 0 where
  -- "every flow's record sound"
  pub slots : (i : ℕ) → i < n → is_used (slot s i) ≡ true → SoundSlot (slot s i)
  -- "no key twice"
  pub once : NoKeyTwice s n
  -- "no flow under another's reversed key, associations apart"
  pub not_reversed : Unreversed turned one_way s n

pub record Sound (s : List ℕ) : Type 0 where
  pub header : SoundHeader (header_in s) (length s)
  pub flows : SoundFlows s (capacity_in s)
  pub tree : Tree.Sound (view (capacity_in s) s).tree (capacity_in s)
  pub queue : (i : ℕ) → i < capacity_in s → Queued (header_in s).timeout.0 (slot s i) (due_of (capacity_in s) (view (capacity_in s) s).tree i)

-- ## What a state means

unfoldable pub settings_of : Header → Settings
settings_of h = record { T = h.timeout.0; L = h.lateness.0; resolution = resolution_from h.resolution; capacity = h.capacity }

abbrev pub settings_in : List ℕ → Settings
settings_in s = settings_of (header_in s)

unfoldable pub slots_of : List (List ℕ) → Slots engine
slots_of table = map slot_flow table

-- the clock, and the open flows in order of key bytes
unfoldable pub meaning : List ℕ → Engine engine
meaning s = engine_of (header_in s).clock.0 (slots_of (slots s (capacity_in s)))
