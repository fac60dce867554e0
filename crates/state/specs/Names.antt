-- A list of slots, and the queue that names every open flow but those of the list. Assumes nothing.
use Rattle.std.specs.Prelude.{ℕ, ◌+◌, ◌≤◌, ◌<◌, ◌≡◌, true, false, List, [], ◌∷◌, map}
use Rattle.queue.specs.Tree.{Sound, never}
use Rattle.slots.specs.Table.{is_used}
use Rattle.table.specs.View.{View, slot_of, with_tree}
use Rattle.table.specs.Due.{due_of, end_of}
use Rattle.rules.specs.Rules.{Flow}
use Rattle.rules.specs.Engine.{engine}
use Rattle.state.specs.Slot.{flow_in}

-- i stands in the list
abbrev pub OneOf : ℕ → List ℕ → Type 0
OneOf i [] = ⊥
OneOf i (x ∷ xs) = (i ≡ x → ⊥) → OneOf i xs

-- nothing stands twice in the list
abbrev pub Once : List ℕ → Type 0
Once [] = Unit {0}
Once (x ∷ xs) = (OneOf x xs → ⊥) × Once xs

-- the flows of the slots of a list
abbrev pub flows_of : List (List ℕ) → List ℕ → List (Flow engine)
flows_of table listed = map (λ i. flow_in (slot_of table i)) listed

-- slot i's entry: none where the timeout is 0 or the slot is free; else end + T or earlier, or the slot is one of the list
pub record Placed (T due : ℕ) (b listed : List ℕ) (i : ℕ) : Type 0 where
  pub empty : T ≡ 0 → due ≡ never
  pub free : is_used b ≡ false → due ≡ never
  pub waits : (T ≡ 0 → ⊥) → is_used b ≡ true → due ≡ never → OneOf i listed
  pub early : (T ≡ 0 → ⊥) → is_used b ≡ true → (due ≡ never → ⊥) → due ≤ end_of b + T

-- the queue names every open flow but those of the list, and nothing else
pub record NamesAllBut (c T : ℕ) (table : List (List ℕ)) (tree listed : List ℕ) : Type 0 where
  pub sound : Sound tree c
  pub placed : (i : ℕ) → i < c → Placed T (due_of c tree i) (slot_of table i) listed i

-- nothing but the queue has changed
abbrev pub QueueOnly : View → View → Type 0
QueueOnly v v' = v' ≡ with_tree v'.tree v

-- slot i has a flow
pub record OpenSlot (c : ℕ) (table : List (List ℕ)) (i : ℕ) : Type 0 where
  pub low : i < c
  pub used : is_used (slot_of table i) ≡ true
