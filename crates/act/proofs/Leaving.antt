-- A flow leaves its slot, and its record goes to the front of the output. Assumes nothing.
use Rattle.std.specs.Prelude.{None, Option, Some}
use Prim.Native.Nat.{ℕ, ◌+◌, ◌*◌, ◌≤◌, ◌<◌}
use mathlib.Core.Path.{◌≡◌, refl, sym, ap, ◌∙◌, subst}
use mathlib.Core.Bool.{Bool, true, false, cond}
use mathlib.Core.List.{List, [], append-nil}
use native.Mathlib.Omega.{arith}
use lib.ListN.{length, get_or, set}
use Rattle.memory.specs.Bytes.{patch}
use Rattle.queue.specs.Tree.{never, DueSet}
use Rattle.slots.specs.Table.{slot, slots, is_used}
use Rattle.slots.proofs.Laws.{get_d_slots}
use Rattle.table.specs.View.{View, view, slot_of}
use Rattle.table.specs.Due.{DuePut}
use Rattle.key.specs.declared.key.FlowKey.{FlowKey}
use Rattle.flow.specs.declared.time.EndReason.{EndReason}
use Rattle.flow.specs.declared.time.EndReason.TheVariants.{Fin}
use Rattle.flow.specs.declared.record.FlowRecord.{FlowRecord}
use Rattle.wire.specs.declared.record.Flow as Wire
use Rattle.wire.specs.RecordForm.{record_bytes}
use Rattle.rules.proofs.OrderLaws.{clash}
use Rattle.rules.specs.Rules.{Flow, finish_or, ended, ended_for}
use Rattle.rules.specs.Engine.{engine, written, finished_flow, record_form, both_fins}
use Rattle.state.specs.Slot.{key_in, flow_in, slot_flow}
use Rattle.state.specs.State.{slots_of}
use Rattle.state.specs.Names.{Placed}
use Rattle.state.specs.Ready.{Ready}
use Rattle.state.specs.Change.{last_free, used_flow, free_flow, slots_of_at, ready_same}
use Rattle.hand.specs.Slot.{flow_as}
use Rattle.hand.specs.Act.{freed_slot, CloseAsked, Closed, OneAsked, Wrote}
use Rattle.hand.specs.Freed.{slot_freed, spare_freed}
use Rattle.hand.specs.Acting.{Busy, Acted, at, emptied_at}
use Rattle.act.specs.Size.{long_enough}
use Rattle.act.specs.Keep.{flow_under, Sits, KeepAsked, kept_slots}
use Rattle.act.specs.Settle.{Filled, EndAsked, LeaveAsked, SettleAsked, settled_slots}
use Rattle.act.proofs.Changed.{SlotChanged, slot_acted}

-- ## Nothing is done

nothing_acted : (c T : ℕ) (s index free : List ℕ) (found : Option ℕ) → Busy c T s index free → found ≡ None
    → Acted c T s s index free (emptied_at found (slots_of (slots s c)))
nothing_acted c T s index free found busy e =
    subst (λ (f : Option ℕ). Acted c T s s index free (emptied_at f (slots_of (slots s c)))) (sym e)
    (record { busy = busy; slots_are = refl; same = record { header = refl; spare_slots = refl; spare_node = refl; rest = refl } })

nothing_filled : (out : List ℕ) → Filled [] out out 0
unfolding patch
nothing_filled out = record { output = refl; bytes = refl }

-- ## The slot is given back

-- a slot that is free has no entry
placed_free : (T i : ℕ) (b : List ℕ) → is_used b ≡ false → Placed T never b [] i
placed_free T i b free = record {
  empty = λ z. refl;
  free = λ f. refl;
  waits = λ t u d. clash u free;
  early = λ t u n. absurd (n refl);
}

module _ (c T i : ℕ) (s index free : List ℕ) (busy : Busy c T s index free) (sits : Sits c s i) (s1 : List ℕ)
    (put : DuePut c i never (view c s) (view c s1)) where
  same_table : slots s1 c ≡ slots s c
  same_table = ap (λ (v : View). v.table) put.same

  same_slot : (j : ℕ) → j < c → slot s1 j ≡ slot s j
  same_slot j low = sym (get_d_slots s1 c j low) ∙ ap (λ (l : List (List ℕ)). get_or l j []) same_table ∙ get_d_slots s c j low

  size_then : 256 + 640 * c ≤ length s1
  size_then = long_enough s1 c busy.some put.queue.sound.size

  ready_then : Ready s1 c index free
  ready_then = ready_same s s1 c index free busy.ready same_slot

  used_then : is_used (slot s1 i) ≡ true
  used_then = ap is_used (same_slot i sits.low) ∙ sits.used

  close_asked : (name : FlowKey) → key_in (slot s i) ≡ name → CloseAsked c i name s1 index free
  close_asked name own = record {
    size = size_then;
    low = sits.low;
    used = used_then;
    own = sym own ∙ ap key_in (sym (same_slot i sits.low));
    ready = ready_then;
  }

  closed_acted : (s2 index2 free2 : List ℕ) → Closed c i s1 s2 index2 free2 → Acted c T s s2 index2 free2 (set (slots_of (slots s c)) i None)
  closed_acted s2 index2 free2 closed =
      let b = slot_of (view c s).table i in
      let given = closed.state in
      let changed : SlotChanged c i never (freed_slot b) (view c s) (view c s2) =
      record {
        header = ap (λ (v : View). v.header) given ∙ ap (λ (v : View). v.header) put.same;
        table =
            ap (λ (v : View). v.table) given
            ∙ ap (λ (t : List (List ℕ)). set t i (freed_slot (slot_of t i))) same_table;
        queue = subst (DueSet c i never (view c s).tree) (sym (ap (λ (v : View). v.tree) given)) put.queue;
        rest = ap (λ (v : View). v.rest) given ∙ ap (λ (v : View). v.rest) put.same;
      } in
      subst (λ (o : Option (Flow engine)). Acted c T s s2 index2 free2 (set (slots_of (slots s c)) i o)) (free_flow (freed_slot b) (slot_freed b))
      (slot_acted c T i never (freed_slot b) s s2 index index2 free free2 busy sits.low changed (placed_free T i (freed_slot b) (slot_freed b))
      (spare_freed b) closed.ready)

-- ## The flow that step 1 ends

-- a flow's record, finished with Fin
fin_bytes : (f : Flow engine) → written (ended engine Fin (Some f)) ≡ record_bytes (flow_as (finish_or engine Fin f))
fin_bytes f =
    append-nil (record_bytes (finished_flow f.name Fin f.held))
    ∙ ap (λ (x : EndReason). record_bytes (finished_flow f.name x f.held)) (sym (either (both_fins f.held)))
  where
    either : (b : Bool) → cond b Fin Fin ≡ Fin
    either true = refl
    either false = refl

ended_bytes : (c i : ℕ) (s : List ℕ) → Sits c s i
    → written (ended engine Fin (at (slots_of (slots s c)) (Some i))) ≡ record_bytes (flow_as (finish_or engine Fin (flow_in (slot s i))))
ended_bytes c i s sits =
    ap (λ (o : Option (Flow engine)). written (ended engine Fin o))
    (slots_of_at (slots s c) i ∙ ap slot_flow (get_d_slots s c i sits.low) ∙ used_flow (slot s i) sits.used)
    ∙ fin_bytes (flow_in (slot s i))

module _ (c T : ℕ) (found : Option ℕ) (s index free out : List ℕ) (asked : EndAsked c T found s index free out) where
  pub end_low : (i : ℕ) → found ≡ Some i → i < c
  end_low i e = (asked.sits i e).low

  bytes_at : (i : ℕ) → found ≡ Some i
      → written (ended engine Fin (at (slots_of (slots s c)) found)) ≡ record_bytes (flow_as (finish_or engine Fin (flow_in (slot s i))))
  bytes_at i e = ap (λ (f : Option ℕ). written (ended engine Fin (at (slots_of (slots s c)) f))) e ∙ ended_bytes c i s (asked.sits i e)

  module _ (i : ℕ) (e : found ≡ Some i) (s1 : List ℕ) (put : DuePut c i never (view c s) (view c s1)) where
    bytes_then : written (ended engine Fin (at (slots_of (slots s c)) found)) ≡ record_bytes (flow_as (finish_or engine Fin (flow_in (slot s1 i))))
    bytes_then =
        bytes_at i e
        ∙ ap (λ (b : List ℕ). record_bytes (flow_as (finish_or engine Fin (flow_in b))))
        (sym (same_slot c T i s index free asked.busy (asked.sits i e) s1 put i (asked.sits i e).low))

    pub one_asked : OneAsked c i Fin s1 index free out
    one_asked =
        let ask = close_asked c T i s index free asked.busy (asked.sits i e) s1 put (key_in (slot s i)) refl in
        record {
          size = ask.size;
          low = ask.low;
          used = ask.used;
          ready = ask.ready;
          room = omega (arith, ap length bytes_then, asked.room);
        }

    pub end_acted : (s2 index2 free2 : List ℕ) → Closed c i s1 s2 index2 free2 → Acted c T s s2 index2 free2 (emptied_at found (slots_of (slots s c)))
    end_acted s2 index2 free2 closed =
        subst (λ (f : Option ℕ). Acted c T s s2 index2 free2 (emptied_at f (slots_of (slots s c)))) (sym e)
        (closed_acted c T i s index free asked.busy (asked.sits i e) s1 put s2 index2 free2 closed)

    pub end_filled : (out' : List ℕ) (r : ℕ) → Wrote (flow_as (finish_or engine Fin (flow_in (slot s1 i)))) out out' r
        → Filled (written (ended engine Fin (at (slots_of (slots s c)) found))) out out' r
    end_filled out' r wrote =
        subst (λ (bs : List ℕ). Filled bs out out' r) (sym bytes_then) (record { output = wrote.output; bytes = wrote.bytes })

  pub none_acted : found ≡ None → Acted c T s s index free (emptied_at found (slots_of (slots s c)))
  none_acted e = nothing_acted c T s index free found asked.busy e

  pub none_filled : found ≡ None → Filled (written (ended engine Fin (at (slots_of (slots s c)) found))) out out 0
  none_filled e =
      subst (λ (f : Option ℕ). Filled (written (ended engine Fin (at (slots_of (slots s c)) f))) out out 0) (sym e) (nothing_filled out)

-- ## The taker's flow leaves

module _ (c T : ℕ) (found : Option ℕ) (name : FlowKey) (s index free : List ℕ) (asked : LeaveAsked c T found name s index free) where
  pub leave_low : (i : ℕ) → found ≡ Some i → i < c
  leave_low i e = (asked.sits i e).low

  module _ (i : ℕ) (e : found ≡ Some i) (s1 : List ℕ) (put : DuePut c i never (view c s) (view c s1)) where
    pub leave_asked : CloseAsked c i name s1 index free
    leave_asked = close_asked c T i s index free asked.busy (asked.sits i e) s1 put name (asked.own i e)

    pub leave_acted : (s2 index2 free2 : List ℕ) → Closed c i s1 s2 index2 free2 → Acted c T s s2 index2 free2 (emptied_at found (slots_of (slots s c)))
    leave_acted s2 index2 free2 closed =
        subst (λ (f : Option ℕ). Acted c T s s2 index2 free2 (emptied_at f (slots_of (slots s c)))) (sym e)
        (closed_acted c T i s index free asked.busy (asked.sits i e) s1 put s2 index2 free2 closed)

  pub stay_acted : found ≡ None → Acted c T s s index free (emptied_at found (slots_of (slots s c)))
  stay_acted e = nothing_acted c T s index free found asked.busy e

-- ## Steps 3 and 4

module _ (c T : ℕ) (found : Option ℕ) (name : FlowKey) (bytes : List ℕ) (r : FlowRecord) (reason : Option EndReason) (s index free out : List ℕ)
    (asked : SettleAsked c T found name bytes r reason s index free out) where
  module _ (e : reason ≡ None) where
    pub keep_asked : KeepAsked c T found name bytes r s index free
    keep_asked = record {
      busy = asked.busy;
      flow = asked.flow;
      unended = asked.unended;
      old = asked.old;
      new = asked.new;
      room = λ n. asked.open_room n e;
    }

    pub settled_kept : (s' index' free' : List ℕ) → Acted c T s s' index' free' (kept_slots found (last_free free) (flow_under name r) (slots_of (slots s c)))
        → Acted c T s s' index' free' (settled_slots found reason (last_free free) name r (slots_of (slots s c)))
    settled_kept s' index' free' acted =
        subst (λ (o : Option EndReason). Acted c T s s' index' free' (settled_slots found o (last_free free) name r (slots_of (slots s c)))) (sym e) acted

    pub kept_filled : Filled (written (ended_for engine reason (flow_under name r))) out out 0
    kept_filled =
        subst (λ (o : Option EndReason). Filled (written (ended_for engine o (flow_under name r))) out out 0) (sym e) (nothing_filled out)

  pub leaves_asked : LeaveAsked c T found name s index free
  leaves_asked = record { busy = asked.busy; sits = λ i e. (asked.old i e).sits; own = λ i e. (asked.old i e).own }

  module _ (why : EndReason) (e : reason ≡ Some why) where
    last_bytes : written (ended_for engine reason (flow_under name r)) ≡ record_form name why r
    last_bytes = ap (λ (o : Option EndReason). written (ended_for engine o (flow_under name r))) e ∙ append-nil (record_form name why r)

    pub settled_left : (s' index' free' : List ℕ) → Acted c T s s' index' free' (emptied_at found (slots_of (slots s c)))
        → Acted c T s s' index' free' (settled_slots found reason (last_free free) name r (slots_of (slots s c)))
    settled_left s' index' free' acted =
        subst (λ (o : Option EndReason). Acted c T s s' index' free' (settled_slots found o (last_free free) name r (slots_of (slots s c)))) (sym e) acted

    module _ (f : Wire.Flow) (is : f ≡ finished_flow name why r) where
      pub flow_fits : length (record_bytes f) ≤ length out
      flow_fits = omega (arith, ap (λ (g : Wire.Flow). length (record_bytes g)) is, ap length last_bytes, asked.room)

      pub left_filled : (out' : List ℕ) (n : ℕ) → Wrote f out out' n
          → Filled (written (ended_for engine reason (flow_under name r))) out out' n
      left_filled out' n wrote =
          subst (λ (bs : List ℕ). Filled bs out out' n) (ap record_bytes is ∙ sym last_bytes) (record { output = wrote.output; bytes = wrote.bytes })
