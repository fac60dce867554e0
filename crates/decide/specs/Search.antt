-- The search for a flow among those that a packet's sweep will leave.
use Rattle.std.specs.Prelude.{ℕ, ◌+◌, ◌*◌, ◌≤◌, ◌≡◌, cond, List, length, None, Option, Some}
use Rattle.slots.specs.Table.{slot, slots}
use Rattle.index.specs.Hash.{hash_of}
use Rattle.index.specs.Index.{Indexed}
use Rattle.rules.specs.Rules as Rules
use Rattle.rules.specs.Engine.{engine}
use Rattle.rules.specs.Slots.{meaning}
use Rattle.state.specs.Slot.{flow_in}
use Rattle.state.specs.State.{SoundFlows}
use Rattle.plan.specs.Plan.{leaves_by}
use Rattle.hand.specs.Acting.{at}
use Rattle.decide.specs.Decide.{staying_slots, Stays}

-- the slot, unless its flow leaves
abbrev pub if_staying : List ℕ → ℕ → ℕ → ℕ → Option ℕ → Option ℕ
if_staying s T L w (Some i) = cond (leaves_by T L w (flow_in (slot s i))) None (Some i)
if_staying s T L w None = None

-- a slot that was found lies in the state
abbrev pub InState : List ℕ → Option ℕ → Type 0
InState s found = (i : ℕ) → found ≡ Some i → 256 + 624 * i + 624 ≤ length s

-- what a search asks: sound flows, their index, and the hash of the bytes that are looked for
pub record SearchAsked (s : List ℕ) (c : ℕ) (index bytes : List ℕ) (hash : ℕ) : Type 0 where
  pub size : 256 + 640 * c ≤ length s
  pub indexed : Indexed hash_of index s c
  pub flows : SoundFlows s c
  pub hash_is : hash ≡ hash_of bytes

-- the flow under these bytes that stays, and where it sits
pub record FoundStaying (s : List ℕ) (c T L w : ℕ) (bytes : List ℕ) (r : Option ℕ) : Type 0 where
  pub under : at (staying_slots T L w (slots s c)) r ≡ Rules.under engine bytes (meaning engine (staying_slots T L w (slots s c)))
  pub sits : (i : ℕ) → r ≡ Some i → Stays s c T L w i
