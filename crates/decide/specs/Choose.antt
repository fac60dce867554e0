-- Steps 1 and 2 of one packet, on slots: what was found under the packet's key and under the reversed key decides.
use Rattle.std.specs.Prelude.{ℕ, ◌≡◌, Bool, true, false, cond, List, eqb, None, Option, Some}
use Rattle.slots.specs.Table.{slot}
use Rattle.flow.specs.declared.record.Direction.TheVariants.{Forward, Reverse}
use Rattle.rules.specs.Engine.{both_fins}
use Rattle.state.specs.Slot.{record_in}
use Rattle.decide.specs.declared.choose.Choice.{Choice}
use Rattle.decide.specs.Search.{FoundStaying}

-- the slot, if its flow has seen both FINs
abbrev pub if_closed_at : List ℕ → Option ℕ → Option ℕ
if_closed_at s (Some i) = cond (both_fins (record_in (slot s i))) (Some i) None
if_closed_at s None = None

-- the first of the two that is there
abbrev pub first_found : Option ℕ → Option ℕ → Option ℕ
first_found (Some i) second = Some i
first_found None second = second

-- step 1
abbrev pub reused_at : List ℕ → Bool → Option ℕ → Option ℕ → Option ℕ
reused_at s syn own turned = cond syn (first_found (if_closed_at s own) (if_closed_at s turned)) None

-- the slot, unless it is the one that step 1 ends
abbrev pub unless_ended : Option ℕ → Option ℕ → Option ℕ
unless_ended (Some i) (Some j) = cond (eqb i j) None (Some i)
unless_ended (Some i) None = Some i
unless_ended None ended = None

-- step 2
abbrev pub taken_by : Option ℕ → Option ℕ → Bool → Option ℕ → Choice
taken_by ended (Some i) two_way turned = record { ended = ended; slot = Some i; direction = Forward }
taken_by ended None true (Some i) = record { ended = ended; slot = Some i; direction = Reverse }
taken_by ended None true None = record { ended = ended; slot = None; direction = Forward }
taken_by ended None false turned = record { ended = ended; slot = None; direction = Forward }

-- step 2 without the flow that step 1 ended
abbrev pub taken_without : Option ℕ → Option ℕ → Bool → Option ℕ → Choice
taken_without ended own two_way turned = taken_by ended (unless_ended own ended) two_way (unless_ended turned ended)

-- both steps
unfoldable pub choice_at : List ℕ → Bool → Option ℕ → Bool → Option ℕ → Choice
choice_at s syn own two_way turned = taken_without (reused_at s syn own turned) own two_way turned

-- the flow under these bytes that stays, where it is needed, else nothing
pub record TurnedIf (needed : Bool) (s : List ℕ) (c T L w : ℕ) (bytes : List ℕ) (r : Option ℕ) : Type 0 where
  pub found : needed ≡ true → FoundStaying s c T L w bytes r
  pub unasked : needed ≡ false → r ≡ None
