-- The flow that took a packet is kept in its slot. Assumes nothing.
use Rattle.std.specs.Prelude.{None, Option, Some}
use Prim.Native.Nat.{ℕ, ◌≤◌, ◌<◌}
use mathlib.Core.Path.{◌≡◌, refl, sym, ap, ◌∙◌, subst}
use mathlib.Core.Bool.{Bool, true, false, cond}
use mathlib.Core.List.{List, []}
use native.Mathlib.Omega.{arith}
use borrow.Author.Tests.{eqb-true, eqb-false}
use lib.Dec.{eqb}
use lib.ListN.{length, set}
use lib.Seq.{get_or-set_same, set-get_or, set-set}
use Rattle.memory.specs.Bytes.{patch, bytes_of}
use Rattle.queue.specs.Tree.{DueSet, Sound}
use Rattle.slots.specs.Table.{slot, slots, is_used, key_of}
use Rattle.slots.proofs.Laws.{length_slots}
use Rattle.table.specs.View.{View, view, slot_of, with_slot}
use Rattle.table.specs.Due.{end_of, due_of, due_for, DuePut}
use Rattle.table.proofs.Laws.{view_ext, slot_view, slots_apart}
use Rattle.table.proofs.SlotLaws.{view_slot_length}
use Rattle.words.specs.Words.{words_of}
use Rattle.index.specs.Hash.{hash_of}
use Rattle.index.specs.Index.{home, entry_of, Inserted}
use Rattle.index.specs.Reversed.{Absent}
use Rattle.key.specs.Key.{reversed_key}
use Rattle.key.specs.KeyTheorems.{key_at_most}
use Rattle.key.specs.declared.key.FlowKey.{FlowKey}
use Rattle.flow.specs.declared.record.FlowRecord.{FlowRecord}
use Rattle.rules.proofs.OrderLaws.{clash}
use Rattle.rules.specs.Rules.{Flow}
use Rattle.rules.specs.Engine.{engine, key_bytes}
use Rattle.rules.specs.EngineLaws.{SoundFlow}
use Rattle.state.specs.Slot.{key_in, words_in, SoundSlot}
use Rattle.state.specs.SlotTest.{turned_is, one_way_is}
use Rattle.state.specs.State.{turned, one_way, slots_of}
use Rattle.state.specs.Free.{free_count, popped}
use Rattle.state.specs.Names.{Placed}
use Rattle.state.specs.Ready.{Ready}
use Rattle.state.specs.Change.{OthersSame, last_free, used_flow, ready_stored, ready_opened}
use Rattle.hand.specs.Acting.{Busy, Acted}
use Rattle.act.specs.Keep.{flow_under, OldFlow, NewFlow, KeepAsked, kept_slots, SeatAsked, Seated, EntryAsked, entry_for, Entered}
use Rattle.act.specs.Size.{long_enough}
use Rattle.act.specs.Free.{last_free_low, under_absent}
use Rattle.act.proofs.Changed.{SlotChanged, slot_acted}
use Rattle.act.proofs.Stored.{flow_is, end_is, sound_is, stored_slot, words_stored, used_stored, spare_stored, key_stored, key_short, keyed_slot, length_keyed, used_keyed, key_keyed, spare_keyed}

-- ## The entry of a flow in the queue

-- a flow that had an entry, and ends no earlier now
placed_still : (T due i : ℕ) (a b : List ℕ) → Placed T due a [] i → is_used a ≡ true → is_used b ≡ true → end_of a ≤ end_of b → Placed T due b [] i
placed_still T due i a b p was used grows = record {
  empty = p.empty;
  free = λ f. clash used f;
  waits = λ t u d. p.waits t was d;
  early = λ t u n. omega (arith, p.early t was n);
}

-- a flow that is new, in a slot that had none
placed_new : (T now i : ℕ) (a b : List ℕ) → Placed T now a [] i → is_used b ≡ true → Placed T (cond (eqb T 0) now (due_for (end_of b) T)) b [] i
placed_new T now i a b p used = go (eqb T 0) refl
  where
    go : (t : Bool) → eqb T 0 ≡ t → Placed T (cond t now (due_for (end_of b) T)) b [] i
    go true e =
        let z : T ≡ 0 = eqb-true T 0 e in
        record { empty = p.empty; free = λ f. clash used f; waits = λ t u d. t z; early = λ t u n. absurd (t z) }
    go false e =
        let n : T ≡ 0 → ⊥ = eqb-false T 0 e in
        record {
          empty = λ z. absurd (n z);
          free = λ f. clash used f;
          waits = λ t u d. omega arith;
          early = λ t u d. omega arith;
        }

-- ## The slot once the flow has its seat, and once its record is stored

-- the slot that was found as it was, or the free slot with the key
abbrev seated_slot : Option ℕ → List ℕ → List ℕ → List ℕ
seated_slot (Some i) bytes b = b
seated_slot None bytes b = keyed_slot bytes b

same_slot : (c i : ℕ) (s s' : List ℕ) → s' ≡ s → view c s' ≡ with_slot i (slot_of (view c s).table i) (view c s)
same_slot c i s s' e = ap (view c) e ∙ view_ext refl (sym (set-get_or (slots s c) i [])) refl refl

module _ (c i due : ℕ) (r : FlowRecord) (b s s1 ws s2 s3 : List ℕ) (low : i < c) (sat : view c s1 ≡ with_slot i b (view c s)) (words : ws ≡ words_of r)
    (stored : view c s2 ≡ with_slot i (patch (slot_of (view c s1).table i) 80 (bytes_of ws)) (view c s1)) where
  is_stored : view c s2 ≡ with_slot i (stored_slot r b) (view c s)
  is_stored =
      let here : slot_of (view c s1).table i ≡ b =
      ap (λ (v : View). slot_of v.table i) sat ∙ get_or-set_same (slots s c) i b [] (omega (arith, length_slots s c 0)) in
      stored ∙ ap (λ (x : List ℕ). with_slot i (patch x 80 (bytes_of ws)) (view c s1)) here
      ∙ ap (λ (x : List ℕ). with_slot i (patch b 80 (bytes_of x)) (view c s1)) words ∙ ap (with_slot i (stored_slot r b)) sat
      ∙ view_ext refl (set-set (slots s c) i b (stored_slot r b)) refl refl

  stored_here : slot s2 i ≡ stored_slot r b
  stored_here = (slots_apart s s2 c i (stored_slot r b) (ap (λ (v : View). v.table) is_stored) low).0

  tree_stored : (view c s2).tree ≡ (view c s).tree
  tree_stored = ap (λ (v : View). v.tree) is_stored

  is_changed : DuePut c i due (view c s2) (view c s3) → SlotChanged c i due (stored_slot r b) (view c s) (view c s3)
  is_changed put = record {
    header = ap (λ (v : View). v.header) put.same ∙ ap (λ (v : View). v.header) is_stored;
    table = ap (λ (v : View). v.table) put.same ∙ ap (λ (v : View). v.table) is_stored;
    queue = subst (λ (t : List ℕ). DueSet c i due t (view c s3).tree) tree_stored put.queue;
    rest = ap (λ (v : View). v.rest) put.same ∙ ap (λ (v : View). v.rest) is_stored;
  }

-- ## A flow that has a slot

module _ (c T : ℕ) (name : FlowKey) (r : FlowRecord) (s index free : List ℕ) (busy : Busy c T s index free) (flow : SoundFlow name r)
    (unended : r.time.end_reason ≡ None) (i : ℕ) (old : OldFlow c name r s i) where
  -- its bytes before
  abbrev before : List ℕ
  before = slot_of (view c s).table i

  is_slot : before ≡ slot s i
  is_slot = slot_view s c i old.sits.low

  long : length before ≡ 624
  long = view_slot_length s c i busy.size old.sits.low

  sound_before : SoundSlot before
  sound_before = subst SoundSlot (sym is_slot) (busy.ready.flows.slots i old.sits.low old.sits.used)

  used_before : is_used before ≡ true
  used_before = ap is_used is_slot ∙ old.sits.used

  key_kept : key_of (stored_slot r before) ≡ key_of before
  key_kept = key_stored name r flow before long (key_short before sound_before)

  own_key : key_of (stored_slot r before) ≡ key_bytes name
  own_key = key_kept ∙ sym sound_before.key ∙ ap (λ (b : List ℕ). key_bytes (key_in b)) is_slot ∙ ap key_bytes old.own

  used_now : is_used (stored_slot r before) ≡ true
  used_now = used_stored name r flow before long ∙ used_before

  abbrev words_now : words_in (stored_slot r before) ≡ words_of r
  words_now = words_stored name r flow before long

  old_acted : (due : ℕ) (s' : List ℕ) → due ≡ due_of c (view c s).tree i → SlotChanged c i due (stored_slot r before) (view c s) (view c s')
      → Acted c T s s' index free (set (slots_of (slots s c)) i (Some (flow_under name r)))
  old_acted due s' same changed =
      let apart = slots_apart s s' c i (stored_slot r before) changed.table old.sits.low in
      let ready : Ready s' c index free =
      ready_stored s s' c i index free busy.ready old.sits.low old.sits.used (ap is_used apart.0 ∙ used_now)
      (ap key_of apart.0 ∙ key_kept ∙ ap key_of is_slot)
      (subst SoundSlot (sym apart.0) (sound_is name r flow unended (stored_slot r before) own_key words_now)) apart.1 in
      let grows : end_of before ≤ end_of (stored_slot r before) =
      omega (arith, old.grows, ap end_of is_slot, end_is name r flow unended (stored_slot r before) own_key words_now) in
      let placed : Placed T due (stored_slot r before) [] i =
      placed_still T due i before (stored_slot r before)
      (subst (λ (d : ℕ). Placed T d before [] i) (sym same) (busy.names.placed i old.sits.low)) used_before used_now grows in
      subst (λ (o : Option (Flow engine)). Acted c T s s' index free (set (slots_of (slots s c)) i o))
      (used_flow (stored_slot r before) used_now ∙ ap Some (flow_is name r flow unended (stored_slot r before) own_key words_now))
      (slot_acted c T i due (stored_slot r before) s s' index index free free busy old.sits.low changed placed
      (spare_stored name r flow before long) ready)

-- ## A flow that is new

module _ (c T : ℕ) (name : FlowKey) (bytes : List ℕ) (r : FlowRecord) (s index free : List ℕ) (busy : Busy c T s index free) (flow : SoundFlow name r)
    (unended : r.time.end_reason ≡ None) (new : NewFlow c name bytes s) (room : 0 < free_count free) (i : ℕ) (last : i ≡ last_free free) where
  -- the bytes of its slot before
  abbrev unused : List ℕ
  unused = slot_of (view c s).table i

  -- .. and now
  abbrev opened : List ℕ
  opened = stored_slot r (keyed_slot bytes unused)

  low : i < c
  low = omega (arith, last_free_low s c index free busy.ready room)

  long_unused : length unused ≡ 624
  long_unused = view_slot_length s c i busy.size low

  short : length bytes ≤ 72
  short = omega (arith, ap length new.key, key_at_most name flow.key)

  long_keyed : length (keyed_slot bytes unused) ≡ 624
  long_keyed = length_keyed bytes unused short long_unused

  keyed : key_of (keyed_slot bytes unused) ≡ bytes
  keyed = key_keyed bytes unused short long_unused

  opened_key : key_of opened ≡ key_bytes name
  opened_key = key_stored name r flow (keyed_slot bytes unused) long_keyed (omega (arith, ap length keyed, short)) ∙ keyed ∙ new.key

  opened_used : is_used opened ≡ true
  opened_used = used_stored name r flow (keyed_slot bytes unused) long_keyed ∙ used_keyed bytes unused short long_unused

  abbrev opened_words : words_in opened ≡ words_of r
  opened_words = words_stored name r flow (keyed_slot bytes unused) long_keyed

  -- no flow was under its key, nor under the reversed key
  alone : Absent s c (key_of opened)
  alone = subst (Absent s c) (sym opened_key) (under_absent s c (key_bytes name) busy.ready.flows new.alone)

  unturned : one_way (key_of opened) ≡ false → Absent s c (turned (key_of opened))
  unturned both =
      subst (Absent s c) (sym (ap turned opened_key ∙ turned_is name flow.key))
      (under_absent s c (key_bytes (reversed_key name)) busy.ready.flows
      (new.unturned (sym (ap one_way opened_key ∙ one_way_is name flow.key) ∙ both)))

  module _ (s' index' : List ℕ) (put : Inserted (home (hash_of bytes)) (entry_of (hash_of bytes) i) index index') (here : slot s' i ≡ opened)
      (others : OthersSame s s' c i) where
    -- the premises that speak of slot i, at the last free slot
    ready_at : (x : ℕ) → x ≡ last_free free → slot s' x ≡ opened → OthersSame s s' c x
        → Inserted (home (hash_of bytes)) (entry_of (hash_of bytes) x) index index' → Ready s' c index' (popped free)
    ready_at x e = subst
        (λ (y : ℕ). slot s' y ≡ opened → OthersSame s s' c y → Inserted (home (hash_of bytes)) (entry_of (hash_of bytes) y) index index' → Ready s' c index' (popped free))
        (sym e)
        (λ is rest entry.
        ready_opened s s' c index index' free (hash_of bytes) busy.ready room (ap is_used is ∙ opened_used)
        (subst SoundSlot (sym is) (sound_is name r flow unended opened opened_key opened_words))
        (subst (λ (b : List ℕ). Absent s c (key_of b)) (sym is) alone)
        (subst (λ (b : List ℕ). one_way (key_of b) ≡ false → Absent s c (turned (key_of b))) (sym is) unturned)
        rest (ap hash_of (new.key ∙ sym opened_key ∙ ap key_of (sym is))) entry)

    opened_ready : Ready s' c index' (popped free)
    opened_ready = ready_at i last here others put

  new_acted : (s' index' : List ℕ) → Inserted (home (hash_of bytes)) (entry_of (hash_of bytes) i) index index'
      → SlotChanged c i (cond (eqb T 0) (due_of c (view c s).tree i) (due_for (end_of opened) T)) opened (view c s) (view c s')
      → Acted c T s s' index' (popped free) (set (slots_of (slots s c)) (last_free free) (Some (flow_under name r)))
  new_acted s' index' put changed =
      let due = cond (eqb T 0) (due_of c (view c s).tree i) (due_for (end_of opened) T) in
      let apart = slots_apart s s' c i opened changed.table low in
      subst (λ (x : ℕ). Acted c T s s' index' (popped free) (set (slots_of (slots s c)) x (Some (flow_under name r)))) last
      (subst (λ (o : Option (Flow engine)). Acted c T s s' index' (popped free) (set (slots_of (slots s c)) i o))
      (used_flow opened opened_used ∙ ap Some (flow_is name r flow unended opened opened_key opened_words))
      (slot_acted c T i due opened s s' index index' free (popped free) busy low changed
      (placed_new T (due_of c (view c s).tree i) i unused opened (busy.names.placed i low) opened_used)
      (spare_stored name r flow (keyed_slot bytes unused) long_keyed ∙ spare_keyed bytes unused short long_unused)
      (opened_ready s' index' put apart.0 apart.1)))

-- ## The steps of keeping it

module _ (c T : ℕ) (found : Option ℕ) (name : FlowKey) (bytes : List ℕ) (r : FlowRecord) (s index free : List ℕ)
    (asked : KeepAsked c T found name bytes r s index free) where
  pub seat_asked : SeatAsked c found name bytes s index free
  seat_asked = record {
    opens = λ e. record {
      size = asked.busy.size;
      ready = asked.busy.ready;
      in_range = asked.flow.key;
      key = (asked.new e).key;
      room = asked.room e;
    };
  }

seated_low : (found : Option ℕ) (c T : ℕ) (name : FlowKey) (bytes : List ℕ) (r : FlowRecord) (s index free : List ℕ) → KeepAsked c T found name bytes r s index free
    → (s1 index1 free1 : List ℕ) (i : ℕ) → Seated found c bytes s s1 index index1 free free1 i → i < c
seated_low (Some j) c T name bytes r s index free asked s1 index1 free1 i h = omega (arith, (asked.old j refl).sits.low, h.0)
seated_low None c T name bytes r s index free asked s1 index1 free1 i h =
    omega (arith, last_free_low s c index free asked.busy.ready (asked.room refl), h.last)

seated_view : (found : Option ℕ) (c : ℕ) (bytes s s1 index index1 free free1 : List ℕ) (i : ℕ) → Seated found c bytes s s1 index index1 free free1 i
    → view c s1 ≡ with_slot i (seated_slot found bytes (slot_of (view c s).table i)) (view c s)
seated_view (Some j) c bytes s s1 index index1 free free1 i h = same_slot c i s s1 h.1.state
seated_view None c bytes s s1 index index1 free free1 i h = h.state

kept_acted : (found : Option ℕ) (c T : ℕ) (name : FlowKey) (bytes : List ℕ) (r : FlowRecord) (s index free : List ℕ) → KeepAsked c T found name bytes r s index free
    → (s1 index1 free1 : List ℕ) (i : ℕ) → Seated found c bytes s s1 index index1 free free1 i → (now : ℕ) → now ≡ due_of c (view c s).tree i
    → (e : ℕ) → e ≡ end_of (stored_slot r (seated_slot found bytes (slot_of (view c s).table i)))
    → (s3 : List ℕ) → SlotChanged c i (entry_for found T e now) (stored_slot r (seated_slot found bytes (slot_of (view c s).table i))) (view c s) (view c s3)
    → Acted c T s s3 index1 free1 (kept_slots found (last_free free) (flow_under name r) (slots_of (slots s c)))
kept_acted (Some j) c T name bytes r s index free asked s1 index1 free1 i h now same e ends s3 changed =
    let old : OldFlow c name r s i = subst (OldFlow c name r s) (sym h.0) (asked.old j refl) in
    subst (λ (x : List ℕ). Acted c T s s3 x free1 (set (slots_of (slots s c)) j (Some (flow_under name r)))) (sym h.1.index_is)
    (subst (λ (x : List ℕ). Acted c T s s3 index x (set (slots_of (slots s c)) j (Some (flow_under name r)))) (sym h.1.list)
    (subst (λ (x : ℕ). Acted c T s s3 index free (set (slots_of (slots s c)) x (Some (flow_under name r)))) h.0
    (old_acted c T name r s index free asked.busy asked.flow asked.unended i old now s3 same changed)))
kept_acted None c T name bytes r s index free asked s1 index1 free1 i h now same e ends s3 changed =
    let b = stored_slot r (keyed_slot bytes (slot_of (view c s).table i)) in
    let moved : SlotChanged c i (cond (eqb T 0) (due_of c (view c s).tree i) (due_for (end_of b) T)) b (view c s) (view c s3) =
    subst (λ (x : ℕ). SlotChanged c i (cond (eqb T 0) (due_of c (view c s).tree i) (due_for x T)) b (view c s) (view c s3)) ends
    (subst (λ (x : ℕ). SlotChanged c i (cond (eqb T 0) x (due_for e T)) b (view c s) (view c s3)) same changed) in
    subst (λ (x : List ℕ). Acted c T s s3 index1 x (set (slots_of (slots s c)) (last_free free) (Some (flow_under name r)))) (sym h.list)
    (new_acted c T name bytes r s index free asked.busy asked.flow asked.unended (asked.new refl) (asked.room refl) i h.last s3 index1 h.put moved)

module _ (c T : ℕ) (found : Option ℕ) (name : FlowKey) (bytes : List ℕ) (r : FlowRecord) (s index free : List ℕ)
    (asked : KeepAsked c T found name bytes r s index free) (s1 index1 free1 : List ℕ) (i : ℕ) (seated : Seated found c bytes s s1 index index1 free free1 i) where
  pub keep_low : i < c
  keep_low = seated_low found c T name bytes r s index free asked s1 index1 free1 i seated

  module _ (ws s2 : List ℕ) (words : ws ≡ words_of r)
      (stored : view c s2 ≡ with_slot i (patch (slot_of (view c s1).table i) 80 (bytes_of ws)) (view c s1)) where
    -- the slot's bytes before the record is stored
    abbrev sat : List ℕ
    sat = seated_slot found bytes (slot_of (view c s).table i)

    abbrev sits : view c s1 ≡ with_slot i sat (view c s)
    sits = seated_view found c bytes s s1 index index1 free free1 i seated

    same_tree : (view c s2).tree ≡ (view c s).tree
    same_tree = tree_stored c i 0 r sat s s1 ws s2 s2 keep_low sits words stored

    pub entry_asked : EntryAsked c i s2
    entry_asked =
        let sound : Sound (view c s2).tree c = subst (λ (t : List ℕ). Sound t c) (sym same_tree) asked.busy.names.sound in
        record { size = long_enough s2 c asked.busy.some sound.size; low = keep_low; sound = sound }

    pub keep_acted : (s3 : List ℕ) → Entered c T i found s2 s3
        → Acted c T s s3 index1 free1 (kept_slots found (last_free free) (flow_under name r) (slots_of (slots s c)))
    keep_acted s3 put =
        kept_acted found c T name bytes r s index free asked s1 index1 free1 i seated (due_of c (view c s2).tree i) (ap (λ (t : List ℕ). due_of c t i) same_tree)
        (end_of (slot s2 i)) (ap end_of (stored_here c i 0 r sat s s1 ws s2 s3 keep_low sits words stored)) s3
        (is_changed c i (entry_for found T (end_of (slot s2 i)) (due_of c (view c s2).tree i)) r sat s s1 ws s2 s3 keep_low sits words stored put)
