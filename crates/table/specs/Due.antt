-- When a slot's flow ends, when it is due, and what the queue says of it.
use Rattle.std.specs.Prelude.{ℕ, ◌+◌, ◌-◌, ◌*◌, ◌≤◌, ◌<◌, min, ◌≡◌, List, ◌++◌, replicate, None, Option, Some}
use Rattle.memory.specs.Bytes.{num, part}
use Rattle.queue.specs.Tree.{node, never, DueSet}
use Rattle.table.specs.View.{View, with_tree}

-- the time that slot b's flow ends, word 1 of its record
unfoldable pub end_of : List ℕ → ℕ
end_of b = num (part b 88 8)

-- slot i's due time in the tree of a queue of capacity c
abbrev pub due_of : ℕ → List ℕ → ℕ → ℕ
due_of c tree i = node tree (c + i)

-- the due time of a flow that ends at e under a timeout of T: it is never that of a slot in no queue
abbrev pub due_for : ℕ → ℕ → ℕ
due_for e T = min (e + T) (never - 1)

-- slot i's due time was replaced, and nothing but the tree has changed
pub record DuePut (c i due : ℕ) (v v' : View) : Type 0 where
  pub same : v' ≡ with_tree v'.tree v
  pub queue : DueSet c i due v.tree v'.tree

-- a slot that is due by the limit, and nothing where every due time is later
abbrev pub NextDue : ℕ → ℕ → List ℕ → Option ℕ → Type 0
NextDue c limit tree (Some i) = (i < c) × (due_of c tree i ≤ limit)
NextDue c limit tree None = (j : ℕ) → j < c → limit < due_of c tree j

-- the queue names nothing: every node of the tree but node 0, which is spare, is 255 throughout, and nothing but the tree has changed
pub record QueueCleared (c : ℕ) (v v' : View) : Type 0 where
  pub same : v' ≡ with_tree v'.tree v
  pub tree : v'.tree ≡ part v.tree 0 8 ++ replicate (16 * c - 8) 255
