-- A state inside a call, between one step and the next; and what a step leaves untouched. Assumes nothing.
use Rattle.std.specs.Prelude.{ℕ, ◌+◌, ◌*◌, ◌≤◌, ◌<◌, ◌≡◌, List, [], map, length, drop, get_or, set, None, Option, Some}
use Rattle.std.proofs.Common.{◌∙◌}
use Rattle.queue.specs.Tree.{node}
use Rattle.slots.specs.Table.{slots}
use Rattle.table.specs.View.{View, view}
use Rattle.rules.specs.Rules.{Flow}
use Rattle.rules.specs.Engine.{engine}
use Rattle.rules.specs.Slots.{Slots}
use Rattle.state.specs.Names.{NamesAllBut}
use Rattle.state.specs.Ready.{Ready}
use Rattle.state.specs.State.{slots_of}

-- a state of capacity c and timeout T whose flows, queue, index and list of free slots are in order
pub record Busy (c T : ℕ) (s index free : List ℕ) : Type 0 where
  pub size : 256 + 640 * c ≤ length s
  pub some : 0 < c
  pub most : c ≤ 4096
  pub ready : Ready s c index free
  pub names : NamesAllBut c T (view c s).table (view c s).tree []

-- the header, the spare bytes of slots and queue, and what is the caller's are as they were
pub record Untouched (v v' : View) : Type 0 where
  pub header : v'.header ≡ v.header
  pub spare_slots : map (drop 376) v'.table ≡ map (drop 376) v.table
  pub spare_node : node v'.tree 0 ≡ node v.tree 0
  pub rest : v'.rest ≡ v.rest

pub untouched_twice : (v v1 v2 : View) → Untouched v v1 → Untouched v1 v2 → Untouched v v2
untouched_twice v v1 v2 p q = record {
  header = q.header ∙ p.header;
  spare_slots = q.spare_slots ∙ p.spare_slots;
  spare_node = q.spare_node ∙ p.spare_node;
  rest = q.rest ∙ p.rest;
}

-- a step has been made: the slots are l now
pub record Acted (c T : ℕ) (s s' index free : List ℕ) (l : Slots engine) : Type 0 where
  pub busy : Busy c T s' index free
  pub slots_are : slots_of (slots s' c) ≡ l
  pub same : Untouched (view c s) (view c s')

-- ## What was found

-- the flow of a slot that was found
abbrev pub at : Slots engine → Option ℕ → Option (Flow engine)
at l (Some i) = get_or l i None
at l None = None

-- the slots without it
abbrev pub emptied_at : Option ℕ → Slots engine → Slots engine
emptied_at (Some i) l = set l i None
emptied_at None l = l

-- ## Why a flow ends
