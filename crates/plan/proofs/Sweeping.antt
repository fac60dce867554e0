-- The loop of a sweep's plan: it begins, deals with a slot, ends. Assumes nothing.
use Rattle.std.specs.Prelude.{None, Option, Some}
use mathlib.Core.Path.{◌≡◌, refl, sym, ap, ◌∙◌, subst}
use mathlib.Core.Bool.{true}
use mathlib.Core.Logic.{⊎_elim}
use mathlib.Core.List.{List, [], ◌∷◌}
use Prim.Native.Nat.{ℕ, ◌+◌, ◌*◌, ◌-◌, ◌<◌, ◌≤◌}
use native.Mathlib.Omega.{arith}
use lib.ListN.{length, get_or, take, length-take}
use borrow.Author.Tests.{leb-true}
use Rattle.memory.proofs.Laws.{same_or}
use Rattle.queue.specs.Tree.{node, never, Sound}
use Rattle.slots.specs.Table.{slot, key_of, is_used}
use Rattle.table.specs.View.{View, view, slot_of, with_tree}
use Rattle.table.specs.Due.{end_of, due_of, due_for, NextDue}
use Rattle.table.proofs.Laws.{slot_view}
use Rattle.state.specs.Slot.{flow_in, slot_flow}
use Rattle.state.specs.State.{SoundFlows, slots_of}
use Rattle.rules.specs.Order.{at_most, sort, those}
use Rattle.rules.specs.Totals.{All, all_more}
use Rattle.rules.specs.Rules.{by_end}
use Rattle.rules.specs.Engine.{engine}
use Rattle.rules.specs.Slots.{meaning}
use Rattle.plan.specs.Plan.{Leaving, Planned, PlanMade}
use Rattle.state.specs.Names.{OneOf, flows_of, QueueOnly}
use Rattle.plan.specs.Steps.{rank_at, PlaceFor, goes, OneAsked, GoesBack, GoesOut, Dealt, SweepAsked}
use Rattle.plan.proofs.Lists.{all_at}
use Rattle.plan.proofs.Listing.{ordered_same, Wanted, listed_wanted}
use Rattle.plan.proofs.Flows.{end_told, length_table, own_key, ends_apart}
use Rattle.plan.proofs.Planning.{rank_of, Planning, DueSlot, to_do, listed_low, room_left, fewer_due, fewer_early, plan_back, plan_out}

-- ## One turn, on a state's bytes

-- the same place by a rank that is the same for each slot
place_same : (rank rank' : ℕ → List ℕ) (listed : List ℕ) (i k : ℕ) → rank i ≡ rank' i → All (λ j. rank j ≡ rank' j) listed
    → PlaceFor rank listed i k → PlaceFor rank' listed i k
place_same rank rank' listed i k e a place = record {
  within = place.within;
  last = λ h. sym (same (k - 1) (omega (arith, place.within))) ∙ place.last h;
  behind = λ j g h. sym (same j h) ∙ place.behind j g h;
}
  where
    same : (j : ℕ) → j < length listed → at_most (rank i) (rank (get_or listed j 0)) ≡ at_most (rank' i) (rank' (get_or listed j 0))
    same j h = rw (e, all_at (λ x. rank x ≡ rank' x) 0 listed j a h)

rank_view : (s : List ℕ) (c i : ℕ) → i < c → rank_at s i ≡ rank_of (view c s).table i
rank_view s c i h = ap (λ (b : List ℕ). end_of b ∷ key_of b) (sym (slot_view s c i h))

due_view : (s : List ℕ) (c T i : ℕ) → i < c → due_for (end_of (slot s i)) T ≡ due_for (end_of (slot_of (view c s).table i)) T
due_view s c T i h = ap (λ (b : List ℕ). due_for (end_of b) T) (sym (slot_view s c i h))

-- the plan goes on, and fewer are left to do
record Stepped (c T limit : ℕ) (v v' : View) (listed : List ℕ) (n : ℕ) : Type 0 where
  few : n ≤ c
  same : QueueOnly v v'
  spare : node v'.tree 0 ≡ node v.tree 0
  plan : Planning c T limit v.table v'.tree listed
  fewer : to_do c T limit v.table v'.tree < to_do c T limit v.table v.tree

module _ (c T limit : ℕ) (s l : List ℕ) (n i : ℕ) (long : n ≤ length l) (d : DueSlot c T limit (view c s).table (view c s).tree (take n l) i) where
  one_fits : n < c
  one_fits = omega (arith, room_left d, length-take n l)

  module _ (s' l' : List ℕ) (r : ℕ) where
    step_back : GoesBack c T i n s s' l l' r → Stepped c T limit (view c s) (view c s') (take r l') r
    step_back b =
        let real = due_view s c T i d.low in
        record {
          few = omega (arith, one_fits, b.count);
          same = b.queue.same;
          spare = b.queue.queue.spare;
          plan = subst (Planning c T limit (view c s).table (view c s').tree) (sym b.list) (plan_back d b.queue.queue real);
          fewer = fewer_early d b.queue.queue real (λ e. b.other (e ∙ sym real));
        }

    step_out : GoesOut c T i n s s' l l' r → Stepped c T limit (view c s) (view c s') (take r l') r
    step_out b =
        let place =
        place_same (rank_at s) (rank_of (view c s).table) (take n l) i b.list.k (rank_view s c i d.low)
        (all_more (λ j. j < c) (λ j. rank_at s j ≡ rank_of (view c s).table j) (rank_view s c) (take n l) (listed_low d)) b.list.place in
        record {
          few = omega (arith, one_fits, b.count);
          same = b.queue.same;
          spare = b.queue.queue.spare;
          plan =
              subst (Planning c T limit (view c s).table (view c s').tree) (sym b.list.is)
              (plan_out d b.queue.queue (b.exact ∙ due_view s c T i d.low) b.list.k place);
          fewer = fewer_due d b.queue.queue (omega (arith, d.below));
        }

-- ## The loop

-- n slots are listed, and `due` is a slot whose entry is the next that is due, if there is one
pub record Looping (c T limit : ℕ) (s₀ leaving₀ s leaving : List ℕ) (n : ℕ) (due : Option ℕ) : Type 0 where
  pub size : 256 + 640 * c ≤ length s
  pub long : length s ≡ length s₀
  pub room : length leaving ≡ length leaving₀
  pub few : n ≤ c
  pub same : QueueOnly (view c s₀) (view c s)
  pub spare : node (view c s).tree 0 ≡ node (view c s₀).tree 0
  pub plan : Planning c T limit (view c s₀).table (view c s).tree (take n leaving)
  pub next : NextDue c limit (view c s).tree due

queue_twice : (v v1 v2 : View) → QueueOnly v v1 → QueueOnly v1 v2 → QueueOnly v v2
queue_twice v v1 v2 p q = q ∙ ap (with_tree v2.tree) p

module _ (c T limit : ℕ) (s₀ l₀ : List ℕ) (asked : SweepAsked c T limit s₀ l₀) where
  pub loop_begins : (due : Option ℕ) → NextDue c limit (view c s₀).tree due → Looping c T limit s₀ l₀ s₀ l₀ 0 due
  loop_begins due next = record {
    size = asked.size;
    long = refl;
    room = refl;
    few = omega arith;
    same = refl;
    spare = refl;
    plan = record { names = asked.names; slots = tt; once = tt; ordered = tt };
    next = next;
  }

  module _ (s l : List ℕ) (n : ℕ) (due : Option ℕ) (h : Looping c T limit s₀ l₀ s l n due) (i : ℕ) (is : due ≡ Some i) where
    -- slot i's entry is due
    here : NextDue c limit (view c s).tree (Some i)
    here = subst (NextDue c limit (view c s).tree) is h.next

    -- the table is as it was
    is_table : (view c s).table ≡ (view c s₀).table
    is_table = ap (λ (v : View). v.table) h.same

    due_slot : DueSlot c T limit (view c s).table (view c s).tree (take n l) i
    due_slot = record {
      timed = asked.timed;
      below = asked.below;
      plan = subst (λ (t : List (List ℕ)). Planning c T limit t (view c s).tree (take n l)) (sym is_table) h.plan;
      low = here.0;
      soon = here.1;
    }

    long_enough : n ≤ length l
    long_enough = omega (arith, h.few, h.room, asked.room)

    pub loop_asks : OneAsked c s l n i
    loop_asks = record {
      size = h.size;
      most = asked.most;
      room = omega (arith, h.room, asked.room);
      few = one_fits c T limit s l n i long_enough due_slot;
      low = here.0;
      others = listed_low due_slot;
      sound = h.plan.names.sound;
    }

    module _ (s' l' : List ℕ) (r : ℕ) (turn : Dealt c T i n s s' l l' r) where
      stepped : Stepped c T limit (view c s) (view c s') (take r l') r
      stepped =
          ⊎_elim (step_back c T limit s l n i long_enough due_slot s' l' r) (step_out c T limit s l n i long_enough due_slot s' l' r) turn

      pub loop_sound : Sound (view c s').tree c
      loop_sound = stepped.plan.names.sound

      pub loop_goes : (due' : Option ℕ) → length s' ≡ length s → length l' ≡ length l → NextDue c limit (view c s').tree due'
          → Looping c T limit s₀ l₀ s' l' r due'
      loop_goes due' e f next = record {
        size = omega (arith, h.size);
        long = e ∙ h.long;
        room = f ∙ h.room;
        few = stepped.few;
        same = queue_twice (view c s₀) (view c s) (view c s') h.same stepped.same;
        spare = stepped.spare ∙ h.spare;
        plan = subst (λ (t : List (List ℕ)). Planning c T limit t (view c s').tree (take r l')) is_table stepped.plan;
        next = next;
      }

      pub loop_falls : to_do c T limit (view c s₀).table (view c s').tree < to_do c T limit (view c s₀).table (view c s).tree
      loop_falls =
          subst (λ (t : List (List ℕ)). to_do c T limit t (view c s').tree < to_do c T limit t (view c s).tree) is_table stepped.fewer

-- ## It ends: no entry is due

module _ (c T limit : ℕ) (s tree listed : List ℕ) (timed : T ≡ 0 → ⊥) (flows : SoundFlows s c)
    (p : Planning c T limit (view c s).table tree listed) (past : (j : ℕ) → j < c → limit < due_of c tree j) where
  all_listed : (i : ℕ) → i < c → is_used (slot_of (view c s).table i) ≡ true → goes T limit (flow_in (slot_of (view c s).table i)) ≡ true → OneOf i listed
  all_listed i low u g =
      let b = slot_of (view c s).table i in
      let entry = p.names.placed i low in
      ⊎_elim (λ e. entry.waits timed u e)
      (λ n. absurd (omega (arith, past i low, entry.early timed u n, leb-true (engine.latest (flow_in b).held + T) limit g, end_told b)))
      (same_or (due_of c tree i) never)

  own_rank : (i : ℕ) → Leaving c (goes T limit) (view c s).table tree i → rank_of (view c s).table i ≡ by_end engine (flow_in (slot_of (view c s).table i))
  own_rank i h =
      let e = sym (end_told (slot_of (view c s).table i)) in
      let k = sym (own_key s c flows i h.low h.used) in
      λ t. e t ∷ k t

  listed_flows : flows_of (view c s).table listed ≡ sort (by_end engine) (those (goes T limit) (meaning engine (slots_of (view c s).table)))
  unfolding slots_of slot_flow
  listed_flows =
      listed_wanted [] engine is_used flow_in (by_end engine) (goes T limit) (view c s).table (ends_apart s c flows) listed
      (all_more (Leaving c (goes T limit) (view c s).table tree) (Wanted [] engine is_used flow_in (goes T limit) (view c s).table)
      (λ i h. record { low = omega (arith, length_table s c, h.low); taken = h.used; passes = h.leaves }) listed p.slots)
      p.once (λ i w. all_listed i (omega (arith, length_table s c, w.low)) w.taken w.passes)
      (ordered_same (rank_of (view c s).table) (λ i. by_end engine (flow_in (slot_of (view c s).table i))) listed
      (all_more (Leaving c (goes T limit) (view c s).table tree)
      (λ i. rank_of (view c s).table i ≡ by_end engine (flow_in (slot_of (view c s).table i))) own_rank listed p.slots) p.ordered)

  pub planned : Planned c T (goes T limit) (view c s).table tree listed
  planned = record { names = p.names; slots = p.slots; once = p.once; all = all_listed; flows = listed_flows }

pub loop_ends : (c T limit : ℕ) (s₀ l₀ : List ℕ) → SweepAsked c T limit s₀ l₀ → (s l : List ℕ) (n : ℕ) (due : Option ℕ) → Looping c T limit s₀ l₀ s l n due → due ≡ None
    → PlanMade c T (goes T limit) (view c s₀) (view c s) (take n l) n
loop_ends c T limit s₀ l₀ asked s l n due h e = record {
  few = h.few;
  same = h.same;
  spare = h.spare;
  plan =
      planned c T limit s₀ (view c s).tree (take n l) asked.timed asked.flows h.plan (subst (NextDue c limit (view c s).tree) e h.next);
}
