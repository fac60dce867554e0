-- One slot of a state that is ready changes, and the state is ready still; and what its slots are in the rules' words. Assumes nothing.
use Rattle.std.specs.Prelude.{ℕ, zero, suc, ◌+◌, ◌<◌, ◌≡◌, refl, Bool, true, false, cond, List, [], ◌∷◌, length, get_or, set, None, Some}
use Rattle.std.proofs.Math.Path.{sym, ap}
use Rattle.std.proofs.Common.{◌∙◌, subst, add-zero, zero-add, arith}
use Rattle.std.proofs.Math.Logic.{⊎_elim}
use Rattle.std.proofs.lemmas.Bool.{false≢true}
use Rattle.std.proofs.Math.Bool.{not-eq-not}
use Rattle.std.proofs.Math.ListN.{get_or-map}
use Rattle.memory.proofs.Laws.{same_or}
use Rattle.slots.specs.Table.{slot, slots_from, slots, is_used, key_of, holds, NoKeyTwice}
use Rattle.slots.proofs.Laws.{get_d_slots, length_slots, holds_true}
use Rattle.index.specs.Index.{bit, used_in, home, entry_of, Inserted, Forgotten}
use Rattle.index.specs.Hash.{hash_of}
use Rattle.index.specs.Reversed.{Absent}
use Rattle.index.proofs.Laws.{used_next, used_same, absent_never, opened, closed, stays_indexed}
use Rattle.key.specs.Key.{reversed_key}
use Rattle.rules.specs.Order.{equal}
use Rattle.rules.proofs.AccountLaws.{equal_true}
use Rattle.rules.specs.Laws.{Fresh, Distinct}
use Rattle.rules.specs.Rules.{by_key}
use Rattle.rules.specs.Engine.{engine, key_bytes}
use Rattle.rules.proofs.EngineTermsLaws.{engine_keys}
use Rattle.rules.proofs.EngineSlotsLaws.{clear_distinct}
use Rattle.rules.specs.Slots.{Slots, occupied}
use Rattle.state.specs.Sitting.{all_sit}
use Rattle.state.specs.Slot.{key_in, flow_in, slot_flow, SoundSlot}
use Rattle.state.specs.State.{turned, one_way, SoundFlows, slots_of}
use Rattle.state.specs.Free.{free_count, pushed, popped, FreeSlots, given_back, last_low, last_unused, taken_up}
use Rattle.state.specs.Ready.{Ready}
use Rattle.state.specs.Meaning.{all_clear}

-- every slot of the first c but x is as it was
abbrev pub OthersSame : List ℕ → List ℕ → ℕ → ℕ → Type 0
OthersSame s s' c x = (j : ℕ) → j < c → (j ≡ x → ⊥) → slot s' j ≡ slot s j

-- the last slot of the free list
abbrev pub last_free : List ℕ → ℕ
last_free free = get_or free (free_count free) 0

-- what holds of slot x, and of a slot that is as it was, holds of each slot
one_changed : (P : List ℕ → List ℕ → Type 0) (s s' : List ℕ) (c x : ℕ) → OthersSame s s' c x → P (slot s x) (slot s' x)
    → ((j : ℕ) → j < c → P (slot s j) (slot s j)) → (j : ℕ) → j < c → P (slot s j) (slot s' j)
one_changed P s s' c x others here same j low =
    ⊎_elim (λ (e : j ≡ x). subst (λ (i : ℕ). P (slot s i) (slot s' i)) (sym e) here)
    (λ n. subst (P (slot s j)) (sym (others j low n)) (same j low)) (same_or j x)

-- ## The flows

-- if slot b is used, then slot a was, under the same key, and b is sound
abbrev Kept : List ℕ → List ℕ → Type 0
Kept a b = is_used b ≡ true → (is_used a ≡ true) × (key_of b ≡ key_of a) × SoundSlot b

-- no slot is used that was not, and none under another key
flows_kept : (s s' : List ℕ) (c : ℕ) → SoundFlows s c → ((j : ℕ) → j < c → Kept (slot s j) (slot s' j)) → SoundFlows s' c
unfolding NoKeyTwice
flows_kept s s' c h kept = record {
  slots = λ i low used. (kept i low used).2;
  once = λ i j li lj ui uj e.
      let ki = kept i li ui in
      let kj = kept j lj uj in
      h.once i j li lj ki.0 kj.0 (sym ki.1 ∙ e ∙ kj.1);
  not_reversed = record {
    alone = λ i j li lj ui uj both e.
        let ki = kept i li ui in
        let kj = kept j lj uj in
        h.not_reversed.alone i j li lj ki.0 kj.0 (ap one_way (sym ki.1) ∙ both) (sym kj.1 ∙ e ∙ ap turned ki.1);
  };
}

-- a slot stands under another's reversed key: so does that one under its own, and both are associations or neither
turned_back : (a b : List ℕ) → SoundSlot a → SoundSlot b → key_of b ≡ turned (key_of a)
    → (key_of a ≡ turned (key_of b)) × (one_way (key_of b) ≡ one_way (key_of a))
unfolding key_in
turned_back a b sa sb e =
    let q : key_bytes (reversed_key (key_in a)) ≡ key_bytes (key_in b) = sym e ∙ sym sb.key in (
      sym sa.key ∙ sym (engine_keys.turn (key_in a) (key_in b) sa.in_range sb.in_range q),
      sym (engine_keys.kind (key_in a) (key_in b) sa.in_range sb.in_range q),
    )

-- a flow more, in slot x: no slot was used under its key, nor under its reversed key, associations apart
module _ (s s' : List ℕ) (c x : ℕ) (h : SoundFlows s c) (sound : SoundSlot (slot s' x)) (new : Absent s c (key_of (slot s' x)))
    (unturned : one_way (key_of (slot s' x)) ≡ false → Absent s c (turned (key_of (slot s' x)))) (others : OthersSame s s' c x) where
  -- a used slot other than x was used before
  was : (j : ℕ) → j < c → (j ≡ x → ⊥) → is_used (slot s' j) ≡ true → is_used (slot s j) ≡ true
  was j low n used = ap is_used (sym (others j low n)) ∙ used

  -- .. and has neither x's key
  other_key : (j : ℕ) → j < c → (j ≡ x → ⊥) → is_used (slot s' j) ≡ true → key_of (slot s' j) ≡ key_of (slot s' x) → ⊥
  other_key j low n used e =
      absent_never s c (key_of (slot s' x)) new j low (was j low n used) (ap key_of (sym (others j low n)) ∙ e)

  -- .. nor that key reversed
  other_turned : (j : ℕ) → j < c → (j ≡ x → ⊥) → is_used (slot s' j) ≡ true → one_way (key_of (slot s' x)) ≡ false
      → key_of (slot s' j) ≡ turned (key_of (slot s' x)) → ⊥
  other_turned j low n used both e =
      absent_never s c (turned (key_of (slot s' x))) (unturned both) j low (was j low n used) (ap key_of (sym (others j low n)) ∙ e)

  -- so each sentence of sound flows holds of all slots
  all_sound : (j : ℕ) → j < c → is_used (slot s' j) ≡ true → SoundSlot (slot s' j)
  all_sound = one_changed (λ a b. is_used b ≡ true → SoundSlot b) s s' c x others (λ u. sound) h.slots

  keys_once : (i j : ℕ) → i < c → j < c → is_used (slot s' i) ≡ true → is_used (slot s' j) ≡ true → key_of (slot s' i) ≡ key_of (slot s' j) → i ≡ j
  unfolding NoKeyTwice
  keys_once i j li lj ui uj e =
      ⊎_elim
      (λ (p : i ≡ x).
      ⊎_elim (λ (q : j ≡ x). p ∙ sym q)
      (λ n. absurd (other_key j lj n uj (sym e ∙ ap (λ (k : ℕ). key_of (slot s' k)) p))) (same_or j x))
      (λ m.
      ⊎_elim (λ (q : j ≡ x). absurd (other_key i li m ui (e ∙ ap (λ (k : ℕ). key_of (slot s' k)) q)))
      (λ n.
      h.once i j li lj (was i li m ui) (was j lj n uj) (ap key_of (sym (others i li m)) ∙ e ∙ ap key_of (others j lj n)))
      (same_or j x))
      (same_or i x)

  keys_unturned : (i j : ℕ) → i < c → j < c → is_used (slot s' i) ≡ true → is_used (slot s' j) ≡ true → one_way (key_of (slot s' i)) ≡ false
      → key_of (slot s' j) ≡ turned (key_of (slot s' i)) → i ≡ j
  keys_unturned i j li lj ui uj both e =
      ⊎_elim
      (λ (p : i ≡ x).
      ⊎_elim (λ (q : j ≡ x). p ∙ sym q)
      (λ n.
      absurd
      (other_turned j lj n uj (ap (λ (k : ℕ). one_way (key_of (slot s' k))) (sym p) ∙ both)
      (e ∙ ap (λ (k : ℕ). turned (key_of (slot s' k))) p)))
      (same_or j x))
      (λ m.
      ⊎_elim
      (λ (q : j ≡ x).
      let back = turned_back (slot s' i) (slot s' j) (all_sound i li ui) (all_sound j lj uj) e in
      absurd
      (other_turned i li m ui (ap (λ (k : ℕ). one_way (key_of (slot s' k))) (sym q) ∙ back.1 ∙ both)
      (back.0 ∙ ap (λ (k : ℕ). turned (key_of (slot s' k))) q)))
      (λ n.
      h.not_reversed.alone i j li lj (was i li m ui) (was j lj n uj) (ap (λ (b : List ℕ). one_way (key_of b)) (sym (others i li m)) ∙ both)
      (ap key_of (sym (others j lj n)) ∙ e ∙ ap (λ (b : List ℕ). turned (key_of b)) (others i li m)))
      (same_or j x))
      (same_or i x)

  flows_opened : SoundFlows s' c
  unfolding NoKeyTwice
  flows_opened = record { slots = all_sound; once = keys_once; not_reversed = record { alone = keys_unturned } }

-- ## The state is ready still

-- the list of the free slots stands where the same slots are used
free_kept : (s s' : List ℕ) (c : ℕ) (free : List ℕ) → FreeSlots s c free → ((j : ℕ) → j < c → is_used (slot s' j) ≡ is_used (slot s j)) → FreeSlots s' c free
free_kept s s' c free h same = record {
  size = h.size;
  most = h.most;
  low = h.low;
  unused = λ k l. same _ (h.low k l) ∙ h.unused k l;
  once = h.once;
  count = omega (arith, h.count, used_same s s' c same);
}

-- no slot has changed
pub ready_same : (s s' : List ℕ) (c : ℕ) (index free : List ℕ) → Ready s c index free → ((j : ℕ) → j < c → slot s' j ≡ slot s j) → Ready s' c index free
ready_same s s' c index free h same = record {
  flows =
      flows_kept s s' c h.flows
      (λ j l u.
      let e = same j l in
      let u' = ap is_used (sym e) ∙ u in
      (u', ap key_of e, subst SoundSlot (sym e) (h.flows.slots j l u')));
  indexed = stays_indexed h.indexed (λ j l. (ap is_used (same j l), ap key_of (same j l)));
  unused = free_kept s s' c free h.unused (λ j l. ap is_used (same j l));
}

-- slot x still has its flow's key
pub ready_stored : (s s' : List ℕ) (c x : ℕ) (index free : List ℕ) → Ready s c index free → x < c → is_used (slot s x) ≡ true
    → is_used (slot s' x) ≡ true → key_of (slot s' x) ≡ key_of (slot s x) → SoundSlot (slot s' x) → OthersSame s s' c x → Ready s' c index free
ready_stored s s' c x index free h low was now own sound others = record {
  flows = flows_kept s s' c h.flows (one_changed Kept s s' c x others (λ u. (was, own, sound)) (λ j l u. (u, refl, h.flows.slots j l u)));
  indexed = stays_indexed h.indexed marks;
  unused = free_kept s s' c free h.unused (λ j l. (marks j l).0);
}
  where
    marks : (j : ℕ) → j < c → (is_used (slot s' j) ≡ is_used (slot s j)) × (key_of (slot s' j) ≡ key_of (slot s j))
    marks = one_changed (λ a b. (is_used b ≡ is_used a) × (key_of b ≡ key_of a)) s s' c x others (now ∙ sym was, own) (λ j l. (refl, refl))

-- slot x is given back
pub ready_closed : (s s' : List ℕ) (c x : ℕ) (index index' free : List ℕ) → Ready s c index free → x < c → is_used (slot s x) ≡ true
    → is_used (slot s' x) ≡ false → OthersSame s s' c x → Forgotten (entry_of (hash_of (key_of (slot s x))) x) index index'
    → Ready s' c index' (pushed x free)
ready_closed s s' c x index index' free h low was now others gone = record {
  flows =
      flows_kept s s' c h.flows
      (one_changed Kept s s' c x others (λ u. absurd (false≢true (sym now ∙ u))) (λ j l u. (u, refl, h.flows.slots j l u)));
  indexed = closed h.indexed low was now others gone;
  unused = given_back s s' c free x h.unused low was now others;
}

-- a flow opens in the last slot of the list
pub ready_opened : (s s' : List ℕ) (c : ℕ) (index index' free : List ℕ) (h : ℕ) → Ready s c index free → 0 < free_count free
    → is_used (slot s' (last_free free)) ≡ true → SoundSlot (slot s' (last_free free)) → Absent s c (key_of (slot s' (last_free free)))
    → (one_way (key_of (slot s' (last_free free))) ≡ false → Absent s c (turned (key_of (slot s' (last_free free)))))
    → OthersSame s s' c (last_free free) → h ≡ hash_of (key_of (slot s' (last_free free)))
    → Inserted (home h) (entry_of h (last_free free)) index index' → Ready s' c index' (popped free)
ready_opened s s' c index index' free h ready more now sound new unturned others e put = record {
  flows = flows_opened s s' c (last_free free) ready.flows sound new unturned others;
  indexed =
      opened ready.indexed (last_low s c free ready.unused more) (last_unused s c free ready.unused more) now refl others put e;
  unused = taken_up s c free ready.unused more s' now others;
}

-- ## How many flows are open

-- counted from slot i on
open_from : (s : List ℕ) (n i : ℕ) → used_in s i + length (occupied engine (slots_of (slots_from s i n))) ≡ used_in s (i + n)
unfolding slots_from slots_of slot_flow
open_from s zero i = omega (arith, ap (used_in s) (add-zero i))
open_from s (suc n) i =
    let e : used_in s (i + 1 + n) ≡ used_in s (i + suc n) = ap (used_in s) (omega arith) in
    go (is_used (slot s i)) (used_next s i) (open_from s n (i + 1)) ∙ e
  where
    go : (t : Bool) → used_in s (i + 1) ≡ used_in s i + bit t
        → used_in s (i + 1) + length (occupied engine (slots_of (slots_from s (i + 1) n))) ≡ used_in s (i + 1 + n)
        → used_in s i + length (occupied engine (cond t (Some (flow_in (slot s i))) None ∷ slots_of (slots_from s (i + 1) n))) ≡ used_in s (i + 1 + n)
    go true next rest = omega arith
    go false next rest = omega arith

-- as many flows are open as slots are used
pub open_flows : (s : List ℕ) (c : ℕ) → length (occupied engine (slots_of (slots s c))) ≡ used_in s c
unfolding used_in
open_flows s c = omega (arith, open_from s c 0, ap (used_in s) (zero-add c))

-- so the free list says how many more there is room for
pub open_and_free : (s : List ℕ) (c : ℕ) (index free : List ℕ) → Ready s c index free
    → length (occupied engine (slots_of (slots s c))) + free_count free ≡ c
open_and_free s c index free h = omega (arith, open_flows s c, h.unused.count)

-- ## The slots in the words of the rules

-- the flow of a slot that is used
pub used_flow : (b : List ℕ) → is_used b ≡ true → slot_flow b ≡ Some (flow_in b)
unfolding slot_flow
used_flow b used = ap (λ (t : Bool). cond t (Some (flow_in b)) None) used

-- one that is not used has none
pub free_flow : (b : List ℕ) → is_used b ≡ false → slot_flow b ≡ None
unfolding slot_flow
free_flow b free = ap (λ (t : Bool). cond t (Some (flow_in b)) None) free

-- slots seen as the rules' slots, one changed
pub slots_of_set : (table : List (List ℕ)) (i : ℕ) (b : List ℕ) → slots_of (set table i b) ≡ set (slots_of table) i (slot_flow b)
unfolding slots_of
slots_of_set [] i b = refl
slots_of_set (a ∷ table) zero b = refl
slots_of_set (a ∷ table) (suc i) b = ap {B = Slots engine} (λ l. slot_flow a ∷ l) (slots_of_set table i b)

-- .. and one of them by its number; behind the last there is no flow
pub slots_of_at : (table : List (List ℕ)) (i : ℕ) → get_or (slots_of table) i None ≡ slot_flow (get_or table i [])
unfolding slots_of slot_flow is_used
slots_of_at table i = get_or-map slot_flow table i []

-- a slot of a state that is ready: its flow's key bytes are the slot's own
pub own_bytes : (s : List ℕ) (c i : ℕ) → SoundFlows s c → i < c → is_used (slot s i) ≡ true → by_key engine (flow_in (slot s i)) ≡ key_of (slot s i)
unfolding flow_in
own_bytes s c i h low used = (h.slots i low used).key

-- what a search by the index finds is the flow under the key
pub found_under : (s : List ℕ) (c i : ℕ) (key : List ℕ) → SoundFlows s c → i < c → holds key (slot s i) ≡ true
    → (get_or (slots_of (slots s c)) i None ≡ Some (flow_in (slot s i))) × (key ≡ by_key engine (flow_in (slot s i)))
found_under s c i key h low held =
    let w = holds_true key (slot s i) held in (
      slots_of_at (slots s c) i ∙ ap slot_flow (get_d_slots s c i low) ∙ used_flow (slot s i) w.0,
      sym w.1 ∙ sym (own_bytes s c i h low w.0),
    )

-- .. and what it does not find no flow is under
pub absent_fresh : (s : List ℕ) (c : ℕ) (key : List ℕ) → SoundFlows s c → Absent s c key
    → Fresh (by_key engine) key (occupied engine (slots_of (slots s c)))
unfolding slots_of slot_flow
absent_fresh s c key h new =
    all_sit [] engine is_used flow_in (λ f. equal key (by_key engine f) ≡ false) (slots s c)
    (λ i l used.
    let low : i < c = omega (arith, length_slots s c 0) in
    let e = get_d_slots s c i low in
    subst (λ (b : List ℕ). equal key (by_key engine (flow_in b)) ≡ false) (sym e) (differs i low (ap is_used (sym e) ∙ used)))
  where
    differs : (i : ℕ) → i < c → is_used (slot s i) ≡ true → equal key (by_key engine (flow_in (slot s i))) ≡ false
    differs i low used =
        (not-eq-not {b = false}).0
        (λ q. absent_never s c key new i low used (sym (own_bytes s c i h low used) ∙ sym (equal_true key _ q)))

-- no two flows have the same key bytes
pub distinct_flows : (s : List ℕ) (c : ℕ) → SoundFlows s c → Distinct (by_key engine) (occupied engine (slots_of (slots s c)))
distinct_flows s c h = clear_distinct engine (occupied engine (slots_of (slots s c))) (all_clear s c h)
