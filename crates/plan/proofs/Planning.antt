-- A sweep's plan as it grows: a slot whose entry is due goes back to its due time or out to the list. Assumes nothing.
use mathlib.Core.Path.{◌≡◌, refl, sym, ap, ◌∙◌, subst}
use mathlib.Core.Bool.{Bool, true, false, not, ◌&&◌, and-false}
use mathlib.Core.Logic.{⊎_elim, ◌⊎◌, inl, inr}
use mathlib.Core.List.{List, ◌∷◌}
use Prim.Native.Nat.{ℕ, ◌+◌, ◌-◌, ◌<◌, ◌≤◌}
use native.Mathlib.Omega.{arith}
use lib.Dec.{eqb, leb}
use lib.ListN.{length}
use borrow.Author.Tests.{eq-eqb, ne_eqb, le-leb, lt-leb}
use Rattle.memory.proofs.Laws.{same_or}
use Rattle.queue.specs.Tree.{never, DueSet}
use Rattle.slots.specs.Table.{key_of, is_used}
use Rattle.table.specs.View.{slot_of}
use Rattle.table.specs.Due.{end_of, due_of, due_for}
use Rattle.state.specs.Slot.{flow_in}
use Rattle.rules.specs.Totals.{All, all_more}
use Rattle.rules.specs.Laws.{Ordered}
use Rattle.rules.proofs.OrderLaws.{clash}
use Rattle.plan.specs.Plan.{Leaving}
use Rattle.state.specs.Names.{OneOf, Once, Placed, NamesAllBut}
use Rattle.plan.specs.Steps.{PlaceFor, put_at, goes}
use Rattle.plan.proofs.Lists.{oneof_all, put_oneof, put_once, put_all, put_ordered, count, count_less, count_most, once_few}
use Rattle.plan.proofs.Flows.{end_told}

-- slot i's rank, by end and then key
abbrev pub rank_of : List (List ℕ) → ℕ → List ℕ
rank_of table i = end_of (slot_of table i) ∷ key_of (slot_of table i)

-- the queue names every open flow but those of the list, which leave by the limit, stand there once and are in order
pub record Planning (c T limit : ℕ) (table : List (List ℕ)) (tree listed : List ℕ) : Type 0 where
  pub names : NamesAllBut c T table tree listed
  pub slots : All (Leaving c (goes T limit) table tree) listed
  pub once : Once listed
  pub ordered : Ordered (rank_of table) listed

-- .. and slot i's entry is due
pub record DueSlot (c T limit : ℕ) (table : List (List ℕ)) (tree listed : List ℕ) (i : ℕ) : Type 0 where
  pub timed : T ≡ 0 → ⊥
  pub below : limit < never - 1
  pub plan : Planning c T limit table tree listed
  pub low : i < c
  pub soon : due_of c tree i ≤ limit

-- ## What is left to do: the entries that are due, and once more those of them that are not the flow's due time

abbrev is_due : ℕ → ℕ → List ℕ → ℕ → Bool
is_due c limit tree j = leb (due_of c tree j) limit

abbrev is_early : ℕ → ℕ → ℕ → List (List ℕ) → List ℕ → ℕ → Bool
is_early c T limit table tree j = is_due c limit tree j && not (eqb (due_of c tree j) (due_for (end_of (slot_of table j)) T))

abbrev pub to_do : ℕ → ℕ → ℕ → List (List ℕ) → List ℕ → ℕ
to_do c T limit table tree = count (is_due c limit tree) c + count (is_early c T limit table tree) c

-- ## The slot

used_or : (b : Bool) → (b ≡ true) ⊎ (b ≡ false)
used_or true = inl refl
used_or false = inr refl

module _ {c T limit : ℕ} {table : List (List ℕ)} {tree listed : List ℕ} {i : ℕ} (d : DueSlot c T limit table tree listed i) where
  in_queue : due_of c tree i ≡ never → ⊥
  in_queue e = omega (arith, d.soon, d.below)

  is_used_lem : is_used (slot_of table i) ≡ true
  is_used_lem = ⊎_elim (λ u. u) (λ f. absurd (in_queue ((d.plan.names.placed i d.low).free f))) (used_or (is_used (slot_of table i)))

  not_listed : OneOf i listed → ⊥
  not_listed o = in_queue (oneof_all (Leaving c (goes T limit) table tree) i listed o d.plan.slots).out

  pub listed_low : All (λ j. j < c) listed
  listed_low = all_more (Leaving c (goes T limit) table tree) (λ j. j < c) (λ j h. h.low) listed d.plan.slots

  -- the list has room for it
  pub room_left : length listed < c
  room_left = once_few c (i ∷ listed) (not_listed, d.plan.once) (d.low, listed_low)

  -- where its entry is its flow's due time, the flow leaves
  exact_leaves : due_of c tree i ≡ due_for (end_of (slot_of table i)) T → goes T limit (flow_in (slot_of table i)) ≡ true
  exact_leaves e = le-leb _ limit (omega (arith, d.soon, d.below, end_told (slot_of table i)))

  -- ## Its entry becomes another

  module _ {tree' : List ℕ} {due : ℕ} (put : DueSet c i due tree tree') where
    other_placed : (listed' : List ℕ) (j : ℕ) → j < c → (j ≡ i → ⊥) → (OneOf j listed → OneOf j listed')
        → Placed T (due_of c tree' j) (slot_of table j) listed' j
    other_placed listed' j l n more =
        let e : due_of c tree' j ≡ due_of c tree j = put.others j l n in
        let h = d.plan.names.placed j l in
        record {
          empty = λ z. absurd (d.timed z);
          free = λ f. e ∙ h.free f;
          waits = λ t u z. more (h.waits t u (sym e ∙ z));
          early = λ t u z. omega (arith, h.early t u (λ q. z (e ∙ q)));
        }

    still_out : All (Leaving c (goes T limit) table tree') listed
    still_out =
        all_more (Leaving c (goes T limit) table tree) (Leaving c (goes T limit) table tree')
        (λ j h. record {
          low = h.low;
          used = h.used;
          leaves = h.leaves;
          out = ⊎_elim (λ (e : j ≡ i). absurd (in_queue (ap (due_of c tree) (sym e) ∙ h.out))) (λ n. put.others j h.low n ∙ h.out) (same_or j i);
        }) listed d.plan.slots

    same_due : (j : ℕ) → j < c → (j ≡ i → ⊥) → is_due c limit tree' j ≡ is_due c limit tree j
    same_due j l n = ap (λ (x : ℕ). leb x limit) (put.others j l n)

    same_early : (j : ℕ) → j < c → (j ≡ i → ⊥) → is_early c T limit table tree' j ≡ is_early c T limit table tree j
    same_early j l n = ap (λ (x : ℕ). leb x limit && not (eqb x (due_for (end_of (slot_of table j)) T))) (put.others j l n)

    was_due : is_due c limit tree i ≡ true
    was_due = le-leb (due_of c tree i) limit d.soon

    -- an entry past the limit: fewer are due
    pub fewer_due : limit < due → to_do c T limit table tree' < to_do c T limit table tree
    fewer_due g =
        let past : is_due c limit tree' i ≡ false = lt-leb (due_of c tree' i) limit (omega (arith, put.here)) in
        omega (
          arith,
          count_less (is_due c limit tree) (is_due c limit tree') c i d.low was_due past same_due,
          count_most (is_early c T limit table tree) (is_early c T limit table tree') c
              (λ j l e. ⊎_elim
              (λ (q : j ≡ i). clash (subst (λ (m : ℕ). is_early c T limit table tree' m ≡ true) q e) (rw past))
              (λ n. sym (same_early j l n) ∙ e) (same_or j i)),
        )

    -- the flow's due time, which it was not: fewer are early
    pub fewer_early : due ≡ due_for (end_of (slot_of table i)) T → (due_of c tree i ≡ due_for (end_of (slot_of table i)) T → ⊥)
        → to_do c T limit table tree' < to_do c T limit table tree
    fewer_early real other =
        omega (
          arith,
          count_less (is_early c T limit table tree) (is_early c T limit table tree') c i d.low
              (rw (was_due, ne_eqb (due_of c tree i) (due_for (end_of (slot_of table i)) T) other))
              (rw (eq-eqb (due_of c tree' i) (due_for (end_of (slot_of table i)) T) (put.here ∙ real)) (and-false (is_due c limit tree' i))) same_early,
          count_most (is_due c limit tree) (is_due c limit tree') c
              (λ j l e. ⊎_elim
              (λ (q : j ≡ i). subst (λ (m : ℕ). is_due c limit tree m ≡ true) (sym q) was_due)
              (λ n. sym (same_due j l n) ∙ e) (same_or j i)),
        )

    -- it goes back to its due time
    pub plan_back : due ≡ due_for (end_of (slot_of table i)) T → Planning c T limit table tree' listed
    plan_back real = record {
      names = record {
        sound = put.sound;
        placed = λ j l. ⊎_elim
            (λ (e : j ≡ i).
            subst (λ (m : ℕ). Placed T (due_of c tree' m) (slot_of table m) listed m) (sym e)
            (record {
              empty = λ z. absurd (d.timed z);
              free = λ f. clash is_used_lem f;
              waits = λ t u z. absurd (omega (arith, put.here));
              early = λ t u n. omega (arith, put.here);
            }))
            (λ n. other_placed listed j l n (λ o. o)) (same_or j i);
      };
      slots = still_out;
      once = d.plan.once;
      ordered = d.plan.ordered;
    }

  -- it goes out to the list
  pub plan_out : {tree' : List ℕ} → DueSet c i never tree tree' → due_of c tree i ≡ due_for (end_of (slot_of table i)) T → (k : ℕ)
      → PlaceFor (rank_of table) listed i k → Planning c T limit table tree' (put_at k i listed)
  plan_out {tree'} put exact k place = record {
    names = record {
      sound = put.sound;
      placed = λ j l. ⊎_elim
          (λ (e : j ≡ i).
          let gone : due_of c tree' j ≡ never = ap (due_of c tree') e ∙ put.here in
          record {
            empty = λ z. gone;
            free = λ f. gone;
            waits = λ t u z. put_oneof k i listed j (λ n. absurd (n e));
            early = λ t u n. absurd (n gone);
          })
          (λ n. other_placed put (put_at k i listed) j l n (λ o. put_oneof k i listed j (λ z. o))) (same_or j i);
    };
    slots =
        put_all k i listed (Leaving c (goes T limit) table tree')
        (record { low = d.low; used = is_used_lem; leaves = exact_leaves exact; out = put.here }) (still_out put);
    once = put_once k i listed not_listed d.plan.once;
    ordered = put_ordered (rank_of table) listed i k d.plan.ordered place;
  }
