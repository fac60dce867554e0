-- What the plan says of the queue is what a sound state says, and its test is the rules'. Assumes nothing.
use Rattle.std.specs.Prelude.{ℕ, ◌<◌, ◌≡◌, refl, List, []}
use Rattle.std.proofs.Common.{sym, subst}
use Rattle.queue.specs.Tree.{Sound}
use Rattle.slots.specs.Table.{slot}
use Rattle.table.specs.View.{view, slot_of}
use Rattle.table.specs.Due.{due_of}
use Rattle.table.proofs.Laws.{slot_view}
use Rattle.state.specs.State.{Queued}
use Rattle.rules.specs.Rules.{Settings, leaves}
use Rattle.rules.specs.Engine.{engine}
use Rattle.plan.specs.Plan.{leaves_by}
use Rattle.state.specs.Names.{Placed, NamesAllBut}

-- ## The queue's entry for a slot, where the list is empty

module _ (T due : ℕ) (b : List ℕ) (i : ℕ) where
  pub placed_queued : Placed T due b [] i → Queued T b due
  placed_queued h = record {
    empty = h.empty;
    nothing_else = h.free;
    named = h.waits;
    early = λ t u. h.early t u (h.waits t u);
  }

  pub queued_placed : Queued T b due → Placed T due b [] i
  queued_placed h = record {
    empty = h.empty;
    free = h.nothing_else;
    waits = h.named;
    early = λ t u n. h.early t u;
  }

-- ## The queue of a state

module _ (c T : ℕ) (s : List ℕ) where
  pub names_queued : NamesAllBut c T (view c s).table (view c s).tree []
      → (i : ℕ) → i < c → Queued T (slot s i) (due_of c (view c s).tree i)
  names_queued h i low =
      subst (λ (b : List ℕ). Queued T b (due_of c (view c s).tree i)) (slot_view s c i low)
      (placed_queued T (due_of c (view c s).tree i) (slot_of (view c s).table i) i (h.placed i low))

  pub queued_names : Sound (view c s).tree c → ((i : ℕ) → i < c → Queued T (slot s i) (due_of c (view c s).tree i))
      → NamesAllBut c T (view c s).table (view c s).tree []
  queued_names sound h = record {
    sound = sound;
    placed = λ i low.
        queued_placed T (due_of c (view c s).tree i) (slot_of (view c s).table i) i
        (subst (λ (b : List ℕ). Queued T b (due_of c (view c s).tree i)) (sym (slot_view s c i low)) (h i low));
  }

-- ## The test

pub leaves_by_lem : (s : Settings) (w : ℕ) → leaves engine s w ≡ leaves_by s.T s.L w
leaves_by_lem s w = refl
