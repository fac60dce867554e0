-- A free slot is taken for a new flow. Assumes nothing.
use Rattle.std.specs.Prelude.{None, Option, Some}
use Prim.Native.Nat.{ℕ, ◌≤◌, ◌<◌}
use mathlib.Core.Path.{◌≡◌, refl, sym, ap, ◌∙◌, subst}
use mathlib.Core.List.{List, ◌∷◌}
use native.Mathlib.Omega.{arith}
use borrow.Author.Tests.{eq-eqb, ne_eqb}
use lib.ListN.{length}
use Rattle.memory.specs.Bytes.{patch}
use Rattle.slots.specs.Table.{slot}
use Rattle.table.specs.View.{view, slot_of, with_slot}
use Rattle.table.specs.Due.{end_of, due_of, due_for, DuePut}
use Rattle.index.specs.Hash.{hash_of, hash_of_lem}
use Rattle.index.specs.Index.{home, entry_of, taken, Inserted}
use Rattle.index.proofs.Laws.{room_to_insert}
use Rattle.key.specs.Shard.{shard_of}
use Rattle.key.specs.KeyTheorems.{key_at_most}
use Rattle.key.specs.declared.key.FlowKey.{FlowKey}
use Rattle.state.specs.Free.{Popped}
use Rattle.state.specs.Change.{last_free}
use Rattle.act.specs.Keep.{OpenAsked, Opened, SeatAsked, Seated, EntryAsked, Entered}
use Rattle.act.specs.Free.{last_free_low}

module _ (c : ℕ) (name : FlowKey) (bytes s index free : List ℕ) (asked : OpenAsked c name bytes s index free) where
  pub open_low : (i : ℕ) → i ≡ last_free free → i < c
  open_low i e = omega (arith, last_free_low s c index free asked.ready asked.room)

  -- c is at most 4096
  pub index_low : (i : ℕ) → i ≡ last_free free → i < 4096
  index_low i e = omega (arith, open_low i e, asked.ready.indexed.small)

  pub open_short : length bytes ≤ 72
  open_short = omega (arith, ap length asked.key, key_at_most name asked.in_range)

  pub index_room : taken index ≤ 8192
  index_room = room_to_insert asked.ready.indexed

  pub slot_opened : (i h : ℕ) (s' index' free' : List ℕ) → Popped free free' i
      → view c s' ≡ with_slot i (patch (slot_of (view c s).table i) 0 (1 ∷ length bytes ∷ bytes)) (view c s)
      → h ≡ shard_of name 524288 → Inserted (home h) (entry_of h i) index index' → Opened c bytes s s' index index' free free' i
  slot_opened i h s' index' free' popped keyed shard put =
      let hash : h ≡ hash_of bytes = shard ∙ sym (hash_of_lem name asked.in_range) ∙ ap hash_of (sym asked.key) in
      record {
        last = popped.slot;
        state = keyed;
        put = subst (λ (x : ℕ). Inserted (home x) (entry_of x i) index index') hash put;
        list = popped.list;
      }

-- ## The flow's slot

pub seat_opens : (c : ℕ) (found : Option ℕ) (name : FlowKey) (bytes s index free : List ℕ) → SeatAsked c found name bytes s index free → found ≡ None
    → OpenAsked c name bytes s index free
seat_opens c found name bytes s index free asked e = asked.opens e

module _ (found : Option ℕ) (c : ℕ) (bytes s index free : List ℕ) where
  pub seat_found : (i : ℕ) → found ≡ Some i → Seated found c bytes s s index index free free i
  seat_found i e =
      subst (λ (f : Option ℕ). Seated f c bytes s s index index free free i) (sym e)
      (refl, record { state = refl; index_is = refl; list = refl })

  pub seat_opened : (s' index' free' : List ℕ) (i : ℕ) → found ≡ None → Opened c bytes s s' index index' free free' i
      → Seated found c bytes s s' index index' free free' i
  seat_opened s' index' free' i e opened = subst (λ (f : Option ℕ). Seated f c bytes s s' index index' free free' i) (sym e) opened

-- ## Its entry in the queue

module _ (c T i : ℕ) (found : Option ℕ) (s : List ℕ) (asked : EntryAsked c i s) where
  -- the entry that slot i has, put again
  same_entry : DuePut c i (due_of c (view c s).tree i) (view c s) (view c s)
  same_entry = record { same = refl; queue = record { sound = asked.sound; here = refl; others = λ j low n. refl; spare = refl } }

  pub entry_kept : (j : ℕ) → found ≡ Some j → Entered c T i found s s
  entry_kept j e = subst (λ (f : Option ℕ). Entered c T i f s s) (sym e) same_entry

  pub entry_none : found ≡ None → T ≡ 0 → Entered c T i found s s
  entry_none e z = subst (λ (f : Option ℕ). Entered c T i f s s) (sym e) (rw (eq-eqb T 0 z) same_entry)

  pub entry_made : found ≡ None → (T ≡ 0 → ⊥) → (due : ℕ) → due ≡ due_for (end_of (slot s i)) T → (s' : List ℕ)
      → DuePut c i due (view c s) (view c s') → Entered c T i found s s'
  entry_made e n due is s' put =
      subst (λ (f : Option ℕ). Entered c T i f s s') (sym e)
      (rw (ne_eqb T 0 n) (subst (λ (d : ℕ). DuePut c i d (view c s) (view c s')) is put))
