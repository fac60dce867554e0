-- One slot of a state inside a call has changed, with its entry in the queue. Assumes nothing.
use Prim.Native.Nat.{ℕ, ◌<◌}
use mathlib.Core.Path.{◌≡◌, sym, ap, ◌∙◌, subst}
use mathlib.Core.Logic.{⊎_elim}
use mathlib.Core.List.{List, [], map}
use native.Mathlib.Omega.{arith}
use lib.ListN.{length, drop, set}
use lib.Seq.{get_or-set_same, get_or-set_other, map-set_same}
use Rattle.memory.proofs.Laws.{same_or}
use Rattle.queue.specs.Tree.{DueSet}
use Rattle.slots.specs.Table.{slots}
use Rattle.slots.proofs.Laws.{length_slots}
use Rattle.table.specs.View.{View, view, slot_of}
use Rattle.table.specs.Due.{due_of}
use Rattle.state.specs.Slot.{slot_flow}
use Rattle.state.specs.State.{slots_of}
use Rattle.state.specs.Names.{Placed, NamesAllBut}
use Rattle.state.specs.Ready.{Ready}
use Rattle.state.specs.Change.{slots_of_set}
use Rattle.hand.specs.Acting.{Busy, Acted}
use Rattle.act.specs.Size.{long_enough}

-- slot i's bytes are b now, and its entry is due; nothing else has changed
pub record SlotChanged (c i due : ℕ) (b : List ℕ) (v v' : View) : Type 0 where
  pub header : v'.header ≡ v.header
  pub table : v'.table ≡ set v.table i b
  pub queue : DueSet c i due v.tree v'.tree
  pub rest : v'.rest ≡ v.rest

-- the queue names every flow still where the entry of slot i is as it should be
changed_names : (c T i due : ℕ) (b : List ℕ) (v v' : View) → length v.table ≡ c → i < c → SlotChanged c i due b v v'
    → Placed T due b [] i → NamesAllBut c T v.table v.tree [] → NamesAllBut c T v'.table v'.tree []
changed_names c T i due b v v' many low changed here names = record {
  sound = changed.queue.sound;
  placed = λ j l. ⊎_elim
      (λ (e : j ≡ i).
      let bytes : slot_of v'.table i ≡ b =
      ap (λ (t : List (List ℕ)). slot_of t i) changed.table ∙ get_or-set_same v.table i b [] (omega arith) in
      subst (λ (k : ℕ). Placed T (due_of c v'.tree k) (slot_of v'.table k) [] k) (sym e)
      (subst (λ (x : List ℕ). Placed T (due_of c v'.tree i) x [] i) (sym bytes)
      (subst (λ (d : ℕ). Placed T d b [] i) (sym changed.queue.here) here)))
      (λ (n : j ≡ i → ⊥).
      let bytes : slot_of v'.table j ≡ slot_of v.table j =
      ap (λ (t : List (List ℕ)). slot_of t j) changed.table ∙ get_or-set_other v.table i j b [] n in
      subst (λ (x : List ℕ). Placed T (due_of c v'.tree j) x [] j) (sym bytes)
      (subst (λ (d : ℕ). Placed T d (slot_of v.table j) [] j) (sym (changed.queue.others j l n)) (names.placed j l)))
      (same_or j i);
}

pub slot_acted : (c T i due : ℕ) (b s s' index index' free free' : List ℕ) → Busy c T s index free → i < c
    → SlotChanged c i due b (view c s) (view c s') → Placed T due b [] i → drop 376 b ≡ drop 376 (slot_of (view c s).table i)
    → Ready s' c index' free' → Acted c T s s' index' free' (set (slots_of (slots s c)) i (slot_flow b))
slot_acted c T i due b s s' index index' free free' busy low changed here spare ready = record {
  busy = record {
    size = long_enough s' c busy.some changed.queue.sound.size;
    some = busy.some;
    most = busy.most;
    ready = ready;
    names = changed_names c T i due b (view c s) (view c s') (length_slots s c 0) low changed here busy.names;
  };
  slots_are = ap slots_of changed.table ∙ slots_of_set (slots s c) i b;
  same = record {
    header = changed.header;
    spare_slots = ap (map (drop 376)) changed.table ∙ map-set_same (drop 376) (slots s c) i b [] spare;
    spare_node = changed.queue.spare;
    rest = changed.rest;
  };
}
