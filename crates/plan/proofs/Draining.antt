-- The loop of a drain's plan: it begins, a slot is passed over or goes to the list, it ends. Assumes nothing.
use mathlib.Core.Path.{◌≡◌, refl, sym, ap, ◌∙◌, subst}
use mathlib.Core.Bool.{Bool, true}
use mathlib.Core.Logic.{⊎_elim}
use mathlib.Core.List.{List, [], ◌∷◌}
use Prim.Native.Nat.{ℕ, ◌+◌, ◌<◌, ◌≤◌}
use native.Mathlib.Omega.{arith}
use lib.ListN.{length, take}
use Rattle.memory.proofs.Laws.{same_or, less_or}
use Rattle.slots.specs.Table.{slot, key_of, is_used}
use Rattle.table.specs.View.{view, slot_of}
use Rattle.table.proofs.Laws.{slot_view}
use Rattle.state.specs.Slot.{flow_in, slot_flow}
use Rattle.state.specs.State.{SoundFlows, slots_of}
use Rattle.rules.specs.Order.{sort, those}
use Rattle.rules.specs.Totals.{All, all_more}
use Rattle.rules.specs.Laws.{Ordered}
use Rattle.rules.proofs.OrderLaws.{clash}
use Rattle.rules.specs.Rules.{Flow, by_key}
use Rattle.rules.specs.Engine.{engine}
use Rattle.rules.specs.Slots.{occupied, meaning}
use Rattle.rules.proofs.SlotsLaws.{in_order, none_left}
use Rattle.plan.specs.Plan.{Gathered, DrainAsked}
use Rattle.state.specs.Names.{OneOf, Once, flows_of, OpenSlot}
use Rattle.plan.specs.Steps.{Fits, key_at, GatherAsked, PassedOver, TakenIn, SlotGathered}
use Rattle.plan.proofs.Lists.{oneof_all, put_oneof, put_once, put_all, put_ordered}
use Rattle.plan.proofs.Listing.{ordered_same, Wanted, listed_wanted}
use Rattle.plan.proofs.Flows.{length_table, own_key, keys_apart}

-- a used slot below i
pub record UsedBelow (s : List ℕ) (i j : ℕ) : Type 0 where
  pub low : j < i
  pub used : is_used (slot s j) ≡ true

-- the used slots below i are listed, once and in order
pub record Gathering (c : ℕ) (s listed : List ℕ) (n i : ℕ) : Type 0 where
  pub within : i ≤ c
  pub few : n ≤ i
  pub slots : All (UsedBelow s i) listed
  pub once : Once listed
  pub named : (j : ℕ) → j < i → is_used (slot s j) ≡ true → OneOf j listed
  pub ordered : Ordered (key_at s) listed

pub gather_begins : (c : ℕ) (s : List ℕ) → Gathering c s [] 0 0
gather_begins c s = record {
  within = omega arith;
  few = omega arith;
  slots = tt;
  once = tt;
  named = λ j l u. absurd (omega arith);
  ordered = tt;
}

module _ (c : ℕ) (s l : List ℕ) (n i : ℕ) (p : Gathering c s (take n l) n i) (low : i < c) where
  before_i : (j : ℕ) → j < i + 1 → (j ≡ i → ⊥) → j < i
  before_i j h ne = ⊎_elim (λ (b : j < i). b) (λ (g : i ≤ j). absurd (ne (omega arith))) (less_or j i)

  not_listed : OneOf i (take n l) → ⊥
  not_listed o = omega (arith, (oneof_all (UsedBelow s i) i (take n l) o p.slots).low)

  still_below : All (UsedBelow s (i + 1)) (take n l)
  still_below = all_more (UsedBelow s i) (UsedBelow s (i + 1)) (λ j h. record { low = omega (arith, h.low); used = h.used }) (take n l) p.slots

  passed_over : (l' : List ℕ) (r : ℕ) → PassedOver i n s l l' r → Gathering c s (take r l') r (i + 1)
  passed_over l' r h =
      subst (λ (listed : List ℕ). Gathering c s listed r (i + 1)) (sym h.list)
      (record {
        within = omega arith;
        few = omega (arith, p.few, h.count);
        slots = still_below;
        once = p.once;
        named = λ j b u.
            ⊎_elim (λ (e : j ≡ i). clash u (ap (λ (m : ℕ). is_used (slot s m)) e ∙ h.free)) (λ ne. p.named j (before_i j b ne) u) (same_or j i);
        ordered = p.ordered;
      })

  taken_in : (l' : List ℕ) (r : ℕ) → TakenIn i n s l l' r → Gathering c s (take r l') r (i + 1)
  taken_in l' r h =
      let k = h.list.k in
      subst (λ (listed : List ℕ). Gathering c s listed r (i + 1)) (sym h.list.is)
      (record {
        within = omega arith;
        few = omega (arith, p.few, h.count);
        slots = put_all k i (take n l) (UsedBelow s (i + 1)) (record { low = omega arith; used = h.used }) still_below;
        once = put_once k i (take n l) not_listed p.once;
        named = λ j b u. put_oneof k i (take n l) j (λ ne. p.named j (before_i j b ne) u);
        ordered = put_ordered (key_at s) (take n l) i k p.ordered h.list.place;
      })

  pub gather_goes : (l' : List ℕ) (r : ℕ) → SlotGathered i n s l l' r → Gathering c s (take r l') r (i + 1)
  gather_goes l' r turn = ⊎_elim (passed_over l' r) (taken_in l' r) turn

pub gather_asks : (c : ℕ) (s l₀ l : List ℕ) (n i : ℕ) → DrainAsked c s l₀ → length l ≡ length l₀ → Gathering c s (take n l) n i → i < c → GatherAsked s l n i
gather_asks c s l₀ l n i asked e p low = record {
  small = omega (arith, asked.most);
  fits = omega (arith, asked.size);
  room = omega (arith, p.few, asked.room);
  others = all_more (UsedBelow s i) (Fits s) (λ j h. omega (arith, h.low, asked.size)) (take n l) p.slots;
}

-- ## It ends: every used slot is listed

module _ (c : ℕ) (s listed : List ℕ) (n i : ℕ) (flows : SoundFlows s c) (p : Gathering c s listed n i) (done : c ≤ i) where
  at_slot : (j : ℕ) → UsedBelow s i j → OpenSlot c (view c s).table j
  at_slot j h =
      let l : j < c = omega (arith, h.low, p.within) in
      record { low = l; used = ap is_used (slot_view s c j l) ∙ h.used }

  all_listed : (j : ℕ) → j < c → is_used (slot_of (view c s).table j) ≡ true → OneOf j listed
  all_listed j l u = p.named j (omega arith) (ap is_used (sym (slot_view s c j l)) ∙ u)

  open_slots : All (OpenSlot c (view c s).table) listed
  open_slots = all_more (UsedBelow s i) (OpenSlot c (view c s).table) at_slot listed p.slots

  own_rank : (j : ℕ) → OpenSlot c (view c s).table j → key_at s j ≡ by_key engine (flow_in (slot_of (view c s).table j))
  own_rank j h = ap key_of (sym (slot_view s c j h.low)) ∙ sym (own_key s c flows j h.low h.used)

  any : Flow engine → Bool
  any f = true

  in_key_order : flows_of (view c s).table listed ≡ sort (by_key engine) (those any (meaning engine (slots_of (view c s).table)))
  unfolding slots_of slot_flow any
  in_key_order =
      listed_wanted [] engine is_used flow_in (by_key engine) any (view c s).table (keys_apart s c flows) listed
      (all_more (OpenSlot c (view c s).table) (Wanted [] engine is_used flow_in any (view c s).table)
      (λ j h. record { low = omega (arith, length_table s c, h.low); taken = h.used; passes = refl }) listed open_slots)
      p.once (λ j w. all_listed j (omega (arith, length_table s c, w.low)) w.taken)
      (ordered_same (key_at s) (λ j. by_key engine (flow_in (slot_of (view c s).table j))) listed
      (all_more (OpenSlot c (view c s).table) (λ j. key_at s j ≡ by_key engine (flow_in (slot_of (view c s).table j))) own_rank listed open_slots) p.ordered)

  every : (l : List (Flow engine)) → All (λ f. any f ≡ true) l
  unfolding any
  every [] = tt
  every (f ∷ l) = (refl, every l)

  pub gather_ends : Gathered c (view c s).table listed n
  gather_ends =
      let open_flows = slots_of (view c s).table in
      record {
        few = omega (arith, p.few, p.within);
        slots = open_slots;
        once = p.once;
        all = all_listed;
        flows =
            in_key_order ∙ ap (sort (by_key engine)) (none_left engine any open_flows (every (occupied engine open_flows)))
            ∙ in_order engine open_flows;
      }
