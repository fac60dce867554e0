-- What a sweep and a drain will hand out, decided before anything is done: a list of slots in the order of their records. A sweep's
-- plan changes the queue alone, which then no longer names the listed slots; a drain's plan changes nothing.
use Rattle.std.specs.Prelude.{ℕ, ◌+◌, ◌*◌, ◌-◌, ◌≤◌, ◌<◌, ◌≡◌, Bool, true, List, [], length}
use Rattle.queue.specs.Tree.{node, never}
use Rattle.queue.specs.Tree as Tree
use Rattle.slots.specs.Table.{is_used}
use Rattle.table.specs.View.{View, view, slot_of}
use Rattle.table.specs.Due.{due_of}
use Rattle.state.specs.Slot.{flow_in}
use Rattle.state.specs.State.{SoundFlows, slots_of}
use Rattle.state.specs.Names.{OneOf, Once, flows_of, NamesAllBut, QueueOnly, OpenSlot}
use Rattle.rules.specs.Order.{sort, those}
use Rattle.rules.specs.Totals.{All}
use Rattle.rules.specs.Rules.{Flow, by_end}
use Rattle.rules.specs.Due.{idle}
use Rattle.rules.specs.Engine.{engine}
use Rattle.rules.specs.Slots.{meaning}

-- ## A sweep's plan

-- "end + T + L is at most W"; with timeout 0 none
abbrev pub leaves_by : ℕ → ℕ → ℕ → Flow engine → Bool
leaves_by T L w f = idle (engine.latest f.held) T L w

-- a listed slot: its flow passes the test, and it is out of the queue
pub record Leaving (c : ℕ) (test : Flow engine → Bool) (table : List (List ℕ)) (tree : List ℕ) (i : ℕ) : Type 0 where
  pub low : i < c
  pub used : is_used (slot_of table i) ≡ true
  pub leaves : test (flow_in (slot_of table i)) ≡ true
  pub out : due_of c tree i ≡ never

-- the list has every flow that passes the test once, in order of end and key; the queue names the others
pub record Planned (c T : ℕ) (test : Flow engine → Bool) (table : List (List ℕ)) (tree listed : List ℕ) : Type 0 where
  pub names : NamesAllBut c T table tree listed
  pub slots : All (Leaving c test table tree) listed
  pub once : Once listed
  pub all : (i : ℕ) → i < c → is_used (slot_of table i) ≡ true → test (flow_in (slot_of table i)) ≡ true → OneOf i listed
  pub flows : flows_of table listed ≡ sort (by_end engine) (those test (meaning engine (slots_of table)))

-- the same from a state's view before to its view after; n slots are listed, and node 0 of the tree, which is spare, is as it was
pub record PlanMade (c T : ℕ) (test : Flow engine → Bool) (v v' : View) (listed : List ℕ) (n : ℕ) : Type 0 where
  pub few : n ≤ c
  pub same : QueueOnly v v'
  pub spare : node v'.tree 0 ≡ node v.tree 0
  pub plan : Planned c T test v.table v'.tree listed

-- sound flows, all named by the queue, and a list with room for every slot. With L at least 2, W − L is below the greatest due time of
-- an entry, 2^64 − 2.
pub record PlanAsked (c T L : ℕ) (s leaving : List ℕ) : Type 0 where
  pub size : 256 + 640 * c ≤ length s
  pub some : 0 < c
  pub most : c ≤ 4096
  pub room : c ≤ length leaving
  pub wide : (T ≡ 0 → ⊥) → 2 ≤ L
  pub flows : SoundFlows s c
  pub names : NamesAllBut c T (view c s).table (view c s).tree []

-- ## Nothing to plan

-- no entry of the queue is due by clock w: each lies behind w − L; with timeout 0, or before L, none is
abbrev pub NothingDue : (c T L w : ℕ) (tree : List ℕ) → Type 0
NothingDue c T L w tree = (T ≡ 0 → ⊥) → L ≤ w → (i : ℕ) → i < c → w - L < due_of c tree i

-- a queue in order
pub record DueAsked (c : ℕ) (s : List ℕ) : Type 0 where
  pub size : 256 + 640 * c ≤ length s
  pub some : 0 < c
  pub sound : Tree.Sound (view c s).tree c

-- ## A drain's plan

-- the list has every open flow once, in order of key bytes
pub record Gathered (c : ℕ) (table : List (List ℕ)) (listed : List ℕ) (n : ℕ) : Type 0 where
  pub few : n ≤ c
  pub slots : All (OpenSlot c table) listed
  pub once : Once listed
  pub all : (i : ℕ) → i < c → is_used (slot_of table i) ≡ true → OneOf i listed
  pub flows : flows_of table listed ≡ meaning engine (slots_of table)

-- sound flows, and a list with room for every slot
pub record DrainAsked (c : ℕ) (s leaving : List ℕ) : Type 0 where
  pub size : 256 + 640 * c ≤ length s
  pub most : c ≤ 4096
  pub room : c ≤ length leaving
  pub flows : SoundFlows s c
