-- The loop of `put_back`: the queue names one more of the list. Assumes nothing.
use Prim.Native.Nat.{ℕ, ◌+◌, ◌*◌, ◌≤◌, ◌<◌}
use mathlib.Core.Path.{◌≡◌, refl, sym, ap, ◌∙◌, subst}
use mathlib.Core.Bool.{true}
use mathlib.Core.Logic.{⊎_elim}
use mathlib.Core.List.{List, ◌∷◌}
use native.Mathlib.Omega.{arith}
use lib.ListN.{length, get_or, take, drop, length-take}
use Rattle.memory.proofs.Laws.{same_or}
use Rattle.queue.specs.Tree.{node, DueSet}
use Rattle.slots.specs.Table.{slot, is_used}
use Rattle.table.specs.View.{View, view, slot_of, with_tree}
use Rattle.table.specs.Due.{end_of, due_of, due_for, DuePut}
use Rattle.table.proofs.Laws.{slot_view}
use Rattle.rules.proofs.OrderLaws.{clash}
use Rattle.state.specs.Names.{Placed, NamesAllBut, QueueOnly}
use Rattle.hand.specs.Act.{Asked, PutBack}
use Rattle.state.specs.Names.{OpenSlot}
use Rattle.hand.proofs.Listing.{next_listed, none_listed, listed_at}

-- one slot of the list is named again
named_again : (c T : ℕ) (table : List (List ℕ)) (tree rest tree' : List ℕ) (i due : ℕ) → (T ≡ 0 → ⊥) → NamesAllBut c T table tree (i ∷ rest)
    → is_used (slot_of table i) ≡ true → due ≡ due_for (end_of (slot_of table i)) T → DueSet c i due tree tree' → NamesAllBut c T table tree' rest
named_again c T table tree rest tree' i due some h used real put = record {
  sound = put.sound;
  placed = λ j l. ⊎_elim
      (λ (e : j ≡ i).
      subst (λ (m : ℕ). Placed T (due_of c tree' m) (slot_of table m) rest m) (sym e)
      (record {
        empty = λ z. absurd (some z);
        free = λ f. clash used f;
        waits = λ t u z. absurd (omega (arith, put.here));
        early = λ t u n. omega (arith, put.here);
      }))
      (λ (n : j ≡ i → ⊥).
      let e : due_of c tree' j ≡ due_of c tree j = put.others j l n in
      let p = h.placed j l in
      record {
        empty = λ z. e ∙ p.empty z;
        free = λ f. e ∙ p.free f;
        waits = λ t u d. p.waits t u (sym e ∙ d) n;
        early = λ t u d. omega (arith, p.early t u (λ z. d (e ∙ z)));
      })
      (same_or j i);
}

-- the queue names again what stands before place k of the list
pub record Putting (c T : ℕ) (s₀ l : List ℕ) (n : ℕ) (s : List ℕ) (k : ℕ) : Type 0 where
  pub size : 256 + 640 * c ≤ length s
  pub long : length s ≡ length s₀
  pub same : QueueOnly (view c s₀) (view c s)
  pub spare : node (view c s).tree 0 ≡ node (view c s₀).tree 0
  pub names : NamesAllBut c T (view c s₀).table (view c s).tree (drop k (take n l))

module _ (c T : ℕ) (s₀ l : List ℕ) (n : ℕ) (asked : Asked c T s₀ l n) where
  pub back_begins : Putting c T s₀ l n s₀ 0
  back_begins = record { size = asked.size; long = refl; same = refl; spare = refl; names = asked.names }

  module _ (s : List ℕ) (k : ℕ) (p : Putting c T s₀ l n s k) where
    module _ (more : k < length (take n l)) where
      here : OpenSlot c (view c s₀).table (get_or (take n l) k 0)
      here = listed_at (OpenSlot c (view c s₀).table) (take n l) k asked.slots more

      pub back_low : get_or (take n l) k 0 < c
      back_low = here.low

      pub back_fits : 256 + 624 * get_or (take n l) k 0 + 624 ≤ length s
      back_fits = omega (arith, here.low, p.size)

      same_slot : slot s (get_or (take n l) k 0) ≡ slot_of (view c s₀).table (get_or (take n l) k 0)
      same_slot = sym (slot_view s c (get_or (take n l) k 0) here.low) ∙ ap (λ (w : View). slot_of w.table (get_or (take n l) k 0)) p.same

      some : T ≡ 0 → ⊥
      some z = omega (arith, asked.none z, length-take n l)

      pub back_goes : (due : ℕ) → due ≡ due_for (end_of (slot s (get_or (take n l) k 0))) T → (s' : List ℕ) → length s' ≡ length s
          → DuePut c (get_or (take n l) k 0) due (view c s) (view c s') → Putting c T s₀ l n s' (k + 1)
      back_goes due e s' q put = record {
        size = omega (arith, p.size);
        long = q ∙ p.long;
        same = put.same ∙ ap (with_tree (view c s').tree) p.same;
        spare = put.queue.spare ∙ p.spare;
        names =
            named_again c T (view c s₀).table (view c s).tree (drop (k + 1) (take n l)) (view c s').tree (get_or (take n l) k 0) due some
            (subst (NamesAllBut c T (view c s₀).table (view c s).tree) (next_listed (take n l) k more) p.names)
            here.used (e ∙ ap (λ (b : List ℕ). due_for (end_of b) T) same_slot) put.queue;
      }

    pub back_ends : length (take n l) ≤ k → PutBack c T (view c s₀) (view c s)
    back_ends h = record {
      same = p.same;
      spare = p.spare;
      names = subst (NamesAllBut c T (view c s₀).table (view c s).tree) (none_listed (take n l) k h) p.names;
    }
