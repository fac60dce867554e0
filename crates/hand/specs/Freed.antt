-- Slots are given back: only the byte of each changes that says that it is used. Assumes nothing.
use Rattle.std.specs.Prelude.{ℕ, zero, suc, ◌<◌, ◌≡◌, refl, Bool, true, false, not, cond, List, [], ◌∷◌, map, length, get_or, set, drop, None, Some}
use Rattle.std.proofs.Math.Path.{sym}
use Rattle.std.proofs.Common.{ap, ◌∙◌, subst, ⊎_elim, arith, length-set, length-append, get_or-set_same, get_or-set_other}
use Rattle.std.proofs.Math.ListN.{length-map, get_or-map}
use Rattle.std.proofs.Math.Seq.{ext_get_or}
use Rattle.memory.specs.Bytes.{part, patch, words_at}
use Rattle.memory.proofs.Laws.{same_or}
use Rattle.queue.specs.Tree.{never}
use Rattle.slots.specs.Table.{is_used, key_of}
use Rattle.table.specs.View.{view, slot_of}
use Rattle.table.specs.Due.{due_of, end_of}
use Rattle.table.proofs.Laws.{slot_view}
use Rattle.rules.proofs.OrderLaws.{clash}
use Rattle.rules.specs.Totals.{All, all_more}
use Rattle.rules.specs.Rules.{Flow, Finished, sizes}
use Rattle.rules.specs.Engine.{engine, written, record_form}
use Rattle.rules.specs.Slots.{Slots, occupied, keep}
use Rattle.state.specs.Slot.{key_in, words_in, record_in, flow_in, slot_flow, SoundSlot}
use Rattle.state.specs.State.{SoundFlows, slots_of}
use Rattle.state.specs.Change.{slots_of_set, slots_of_at, used_flow, free_flow}
use Rattle.state.specs.Names.{OneOf, NamesAllBut}
use Rattle.hand.specs.Act.{SoundOpen, freed_slot, freed_all}
use Rattle.state.specs.Names.{OpenSlot}

-- ## One slot

-- it is used no more
pub slot_freed : (b : List ℕ) → is_used (freed_slot b) ≡ false
unfolding is_used patch
slot_freed b = refl

-- its flow can be read still
pub flow_freed : (b : List ℕ) → flow_in (freed_slot b) ≡ flow_in b
unfolding flow_in key_in record_in words_in key_of words_at part patch
flow_freed [] = refl
flow_freed (x ∷ b) = refl

-- its spare bytes are as they were
pub spare_freed : (b : List ℕ) → drop 376 (freed_slot b) ≡ drop 376 b
unfolding patch
spare_freed [] = refl
spare_freed (x ∷ b) = refl

-- ## One slot of a table

module _ (table : List (List ℕ)) (i : ℕ) where
  -- the table with slot i given back
  abbrev pub one_freed : List (List ℕ)
  one_freed = set table i (freed_slot (slot_of table i))

  -- every other slot is as it was
  pub others_freed : (j : ℕ) → (j ≡ i → ⊥) → slot_of one_freed j ≡ slot_of table j
  others_freed j n = get_or-set_other table i j (freed_slot (slot_of table i)) [] n

  -- slot i is free where it lies in the table
  here_freed : (j : ℕ) → j ≡ i → j < length table → is_used (slot_of one_freed j) ≡ false
  here_freed j e low =
      let same : slot_of one_freed i ≡ freed_slot (slot_of table i) = get_or-set_same table i (freed_slot (slot_of table i)) [] (omega arith) in
      ap (λ (k : ℕ). is_used (slot_of one_freed k)) e ∙ ap is_used same ∙ slot_freed (slot_of table i)

-- the flow of each slot can be read still
pub flows_freed : (table : List (List ℕ)) (i j : ℕ) → flow_in (slot_of (one_freed table i) j) ≡ flow_in (slot_of table j)
flows_freed [] i j = refl
flows_freed (b ∷ table) zero zero = flow_freed b
flows_freed (b ∷ table) zero (suc j) = refl
flows_freed (b ∷ table) (suc i) zero = refl
flows_freed (b ∷ table) (suc i) (suc j) = flows_freed table i j

-- ## The slots of a list

-- what holds of all holds of one
all_one : (P : ℕ → Type 0) (l : List ℕ) (j : ℕ) → All P l → OneOf j l → P j
all_one P [] j a o = absurd o
all_one P (x ∷ l) j a o = ⊎_elim (λ (e : j ≡ x). subst P (sym e) a.0) (λ n. all_one P l j a.1 (o n)) (same_or j x)

-- from one property of all to another, by what holds of each that stands in the list
all_listed : (P Q : ℕ → Type 0) (l : List ℕ) → ((j : ℕ) → OneOf j l → P j → Q j) → All P l → All Q l
all_listed P Q [] h a = tt
all_listed P Q (x ∷ l) h a = (h x (λ n. absurd (n refl)) a.0, all_listed P Q l (λ j o. h j (λ n. o)) a.1)

-- the open slots of sound flows are sound
pub open_sound : (s : List ℕ) (c : ℕ) (listed : List ℕ) → SoundFlows s c → All (OpenSlot c (view c s).table) listed
    → All (SoundOpen c (view c s).table) listed
open_sound s c listed h a =
    all_more (OpenSlot c (view c s).table) (SoundOpen c (view c s).table)
    (λ i o.
    let e = slot_view s c i o.low in
    record { low = o.low; used = o.used; sound = subst SoundSlot (sym e) (h.slots i o.low (ap is_used (sym e) ∙ o.used)) })
    listed a

-- where none stands twice, the slots behind the first are open still when that one is given back
pub open_freed : (c : ℕ) (table : List (List ℕ)) (i : ℕ) (rest : List ℕ) → (OneOf i rest → ⊥) → All (OpenSlot c table) rest
    → All (OpenSlot c (one_freed table i)) rest
open_freed c table i rest apart a =
    all_listed (OpenSlot c table) (OpenSlot c (one_freed table i)) rest
    (λ j o h. record {
      low = h.low;
      used = ap is_used (others_freed table i j (λ e. apart (subst (λ (x : ℕ). OneOf x rest) e o))) ∙ h.used;
    })
    a

-- ## The queue

-- the first of the list is given back, and the queue names every other
pub freed_names : (c T : ℕ) (table : List (List ℕ)) (tree : List ℕ) (i : ℕ) (rest : List ℕ) → NamesAllBut c T table tree (i ∷ rest)
    → length table ≡ c → due_of c tree i ≡ never → NamesAllBut c T (set table i (patch (slot_of table i) 0 (0 ∷ []))) tree rest
freed_names c T table tree i rest h many out = record {
  sound = h.sound;
  placed = λ j low. ⊎_elim
      (λ (e : j ≡ i).
      let due : due_of c tree j ≡ never = ap (due_of c tree) e ∙ out in
      let free = here_freed table i j e (omega arith) in
      record { empty = λ z. due; free = λ f. due; waits = λ t u d. clash u free; early = λ t u n. absurd (n due) })
      (λ (n : j ≡ i → ⊥).
      let p = h.placed j low in
      let same = others_freed table i j n in
      record {
        empty = p.empty;
        free = λ f. p.free (ap is_used (sym same) ∙ f);
        waits = λ t u d. p.waits t (ap is_used (sym same) ∙ u) d n;
        early = λ t u d. omega (arith, p.early t (ap is_used (sym same) ∙ u) d, ap end_of same);
      })
      (same_or j i);
}

-- .. and so the whole list
pub all_freed_names : (c T : ℕ) (table : List (List ℕ)) (tree listed : List ℕ) → NamesAllBut c T table tree listed
    → length table ≡ c → All (λ i. due_of c tree i ≡ never) listed → NamesAllBut c T (freed_all listed table) tree []
all_freed_names c T table tree [] h many out = h
all_freed_names c T table tree (i ∷ rest) h many out =
    all_freed_names c T (one_freed table i) tree rest (freed_names c T table tree i rest h many out.0)
    (length-set table i (freed_slot (slot_of table i)) ∙ many) out.1

-- ## What the slots mean

-- the slots of the list cleared
abbrev pub cleared_at : List ℕ → Slots engine → Slots engine
cleared_at [] l = l
cleared_at (i ∷ is) l = cleared_at is (set l i None)

-- to give slots back clears them
pub freed_slots : (listed : List ℕ) (table : List (List ℕ)) → slots_of (freed_all listed table) ≡ cleared_at listed (slots_of table)
freed_slots [] table = refl
freed_slots (i ∷ is) table =
    freed_slots is (one_freed table i)
    ∙ ap (cleared_at is)
    (slots_of_set table i (freed_slot (slot_of table i))
    ∙ ap (set (slots_of table) i) (free_flow (freed_slot (slot_of table i)) (slot_freed (slot_of table i))))

-- as many slots as before
length_cleared : (listed : List ℕ) (l : Slots engine) → length (cleared_at listed l) ≡ length l
length_cleared [] l = refl
length_cleared (i ∷ is) l = length_cleared is (set l i None) ∙ length-set l i None

-- a slot that is cleared has no flow
none_at : (l : Slots engine) (i : ℕ) → get_or (set l i None) i None ≡ None
none_at [] i = refl
none_at (x ∷ l) zero = refl
none_at (x ∷ l) (suc i) = none_at l i

module _ (j : ℕ) where
  -- what has no flow has none still
  none_stays : (listed : List ℕ) (l : Slots engine) → get_or l j None ≡ None → get_or (cleared_at listed l) j None ≡ None
  none_stays [] l e = e
  none_stays (i ∷ is) l e =
      none_stays is (set l i None)
      (⊎_elim (λ (q : j ≡ i). ap (λ (k : ℕ). get_or (set l i None) k None) q ∙ none_at l i)
      (λ n. get_or-set_other l i j None None n ∙ e) (same_or j i))

  -- a slot of the list has none
  pub listed_cleared : (listed : List ℕ) (l : Slots engine) → OneOf j listed → get_or (cleared_at listed l) j None ≡ None
  listed_cleared [] l o = absurd o
  listed_cleared (i ∷ is) l o =
      ⊎_elim (λ (q : j ≡ i). none_stays is (set l i None) (ap (λ (k : ℕ). get_or (set l i None) k None) q ∙ none_at l i))
      (λ n. listed_cleared is (set l i None) (o n)) (same_or j i)

  -- another has what it had
  pub other_cleared : (listed : List ℕ) (l : Slots engine) → (OneOf j listed → ⊥) → get_or (cleared_at listed l) j None ≡ get_or l j None
  other_cleared [] l n = refl
  other_cleared (i ∷ is) l n =
      other_cleared is (set l i None) (λ o. n (λ q. o)) ∙ get_or-set_other l i j None None (λ e. n (λ q. absurd (q e)))

  -- .. down to its bytes
  pub freed_kept : (listed : List ℕ) (table : List (List ℕ)) → (OneOf j listed → ⊥) → slot_of (freed_all listed table) j ≡ slot_of table j
  freed_kept [] table n = refl
  freed_kept (i ∷ is) table n =
      freed_kept is (one_freed table i) (λ o. n (λ q. o)) ∙ others_freed table i j (λ e. n (λ q. absurd (q e)))

-- where the list is of the slots whose flows pass a test, those stay that do not
module _ (c : ℕ) (test : Flow engine → Bool) (table : List (List ℕ)) (listed : List ℕ) (many : length table ≡ c)
    (pass : All (λ i. test (flow_in (slot_of table i)) ≡ true) listed)
    (all : (i : ℕ) → i < c → is_used (slot_of table i) ≡ true → test (flow_in (slot_of table i)) ≡ true → OneOf i listed) where
  -- the flow does not pass the test
  abbrev stays : Flow engine → Bool
  stays f = not (test f)

  -- slot by slot
  kept_at : (j : ℕ) → j < c → get_or (cleared_at listed (slots_of table)) j None ≡ keep engine stays (get_or (slots_of table) j None)
  kept_at j low = go (is_used (slot_of table j)) refl (test (flow_in (slot_of table j))) refl
    where
      go : (u : Bool) → is_used (slot_of table j) ≡ u → (t : Bool) → test (flow_in (slot_of table j)) ≡ t
          → get_or (cleared_at listed (slots_of table)) j None ≡ keep engine stays (get_or (slots_of table) j None)
      go false free t q =
          let e = slots_of_at table j ∙ free_flow (slot_of table j) free in
          none_stays j listed (slots_of table) e ∙ sym (ap (keep engine stays) e)
      go true used true q =
          let e = slots_of_at table j ∙ used_flow (slot_of table j) used in
          listed_cleared j listed (slots_of table) (all j low used q)
          ∙ sym (ap (keep engine stays) e ∙ ap (λ (x : Bool). cond (not x) (Some (flow_in (slot_of table j))) None) q)
      go true used false q =
          let e = slots_of_at table j ∙ used_flow (slot_of table j) used in
          other_cleared j listed (slots_of table) (λ o. clash (all_one (λ i. test (flow_in (slot_of table i)) ≡ true) listed j pass o) q) ∙ e
          ∙ sym (ap (keep engine stays) e ∙ ap (λ (x : Bool). cond (not x) (Some (flow_in (slot_of table j))) None) q)

  pub cleared_keep : cleared_at listed (slots_of table) ≡ map (keep engine (λ f. not (test f))) (slots_of table)
  unfolding slots_of
  cleared_keep =
      ext_get_or None (cleared_at listed (slots_of table)) (map (keep engine stays) (slots_of table))
      (length_cleared listed (slots_of table) ∙ sym (length-map (slots_of table) (keep engine stays)))
      (λ j h.
      kept_at j (omega (arith, length_cleared listed (slots_of table), length-map table slot_flow))
      ∙ sym (get_or-map (keep engine stays) (slots_of table) j None))

-- slots without a flow hold none
none_occupied : (l : Slots engine) → ((j : ℕ) → j < length l → get_or l j None ≡ None) → occupied engine l ≡ []
none_occupied [] h = refl
none_occupied (None ∷ l) h = none_occupied l (λ j k. h (suc j) (omega arith))
none_occupied (Some f ∷ l) h = absurd (let e = h 0 (omega arith) in let z : ◌≡◌ {A = ℕ} 0 1 = cc in omega arith)

-- where every open slot is in the list, no flow stays
pub cleared_all : (c : ℕ) (table : List (List ℕ)) (listed : List ℕ) → length table ≡ c
    → ((i : ℕ) → i < c → is_used (slot_of table i) ≡ true → OneOf i listed) → occupied engine (cleared_at listed (slots_of table)) ≡ []
unfolding slots_of
cleared_all c table listed many all =
    none_occupied (cleared_at listed (slots_of table))
    (λ j h.
    go j (is_used (slot_of table j)) refl (omega (arith, length_cleared listed (slots_of table), length-map table slot_flow)))
  where
    go : (j : ℕ) (u : Bool) → is_used (slot_of table j) ≡ u → j < c → get_or (cleared_at listed (slots_of table)) j None ≡ None
    go j true used low = listed_cleared j listed (slots_of table) (all j low used)
    go j false free low = none_stays j listed (slots_of table) (slots_of_at table j ∙ free_flow (slot_of table j) free)

-- ## What lies behind the records in the slots

-- .. of a table with one slot given back
spare_kept : (table : List (List ℕ)) (i : ℕ) → map (drop 376) (one_freed table i) ≡ map (drop 376) table
spare_kept [] i = refl
spare_kept (b ∷ table) zero = ap (λ (x : List ℕ). x ∷ map (drop 376) table) (spare_freed b)
spare_kept (b ∷ table) (suc i) = ap (λ (l : List (List ℕ)). drop 376 b ∷ l) (spare_kept table i)

-- the spare bytes of every slot are as they were
pub freed_spare : (listed : List ℕ) (table : List (List ℕ)) → map (drop 376) (freed_all listed table) ≡ map (drop 376) table
freed_spare [] table = refl
freed_spare (i ∷ is) table = freed_spare is (one_freed table i) ∙ spare_kept table i

-- ## The bytes of records

-- the sizes of records sum to the length of their bytes
pub sizes_written : (fs : List (Finished engine)) → sizes engine fs ≡ length (written fs)
sizes_written [] = refl
sizes_written (f ∷ fs) =
    omega (arith, sizes_written fs, length-append (record_form f.name f.reason f.held) (written fs))
