-- The loop of `hand_out`: one record more is written, and its slot is given back. Assumes nothing.
use Prim.Native.Nat.{ℕ, ◌+◌, ◌-◌, ◌≤◌, ◌<◌}
use mathlib.Core.Path.{◌≡◌, refl, sym, ap, ◌∙◌, subst}
use mathlib.Core.List.{List, [], ◌∷◌, ◌++◌, append_assoc, append-nil}
use native.Mathlib.Omega.{arith}
use lib.ListN.{length, get_or, take, drop, length-take, length-drop, length-append, take-append-drop, drop_of_length-le}
use lib.Seq.{take_all, take_at, drop-drop}
use borrow.Rule.Slice.PartMut.{put_mid}
use Rattle.memory.specs.Bytes.{patch}
use Rattle.memory.proofs.Laws.{length_patch, drop_behind}
use Rattle.slots.specs.Table.{slot, is_used}
use Rattle.table.specs.View.{View, view, slot_of}
use Rattle.table.proofs.Laws.{slot_view}
use Rattle.flow.specs.declared.time.EndReason.{EndReason}
use Rattle.wire.specs.RecordForm.{record_bytes}
use Rattle.rules.specs.Totals.{All}
use Rattle.rules.specs.Rules.{Flow, finish_or}
use Rattle.rules.specs.Engine.{engine}
use Rattle.state.specs.Slot.{flow_in}
use Rattle.state.specs.Ready.{Ready}
use Rattle.state.specs.Names.{Once}
use Rattle.hand.specs.Slot.{flow_as}
use Rattle.hand.specs.Act.{OneAsked, Closed, Wrote, HandAsked, Handed, records_of, freed_all}
use Rattle.state.specs.Names.{OpenSlot}
use Rattle.hand.specs.Freed.{flows_freed, open_freed}
use Rattle.hand.proofs.Listing.{next_listed, none_listed}

-- ## What is lent of the output, and what comes back

-- `&mut out[used..]`
lent_rest : (out : List ℕ) (used : ℕ) → take (length out - used) (drop used out) ≡ drop used out
lent_rest out used = take_all (length out - used) (drop used out) (omega (arith, length-drop used out))

-- it came back with bytes at its front
rest_back : (out t : List ℕ) (used : ℕ) (bs : List ℕ) → t ≡ patch (take (length out - used) (drop used out)) 0 bs
    → put_mid used (length out - used) out t ≡ patch out used bs
unfolding patch
rest_back out t used bs e =
    let short : length (drop used out) ≤ length out - used = omega (arith, length-drop used out) in
    let none : drop (length out - used) (drop used out) ≡ [] = drop_of_length-le (drop used out) short in
    ap (λ (y : List ℕ). take used out ++ (t ++ y)) none
    ∙ ap (λ (y : List ℕ). take used out ++ y) (append-nil t ∙ e ∙ ap (λ (y : List ℕ). bs ++ drop (length bs) y) (lent_rest out used))

-- a record behind those that are there
take_more : (out : List ℕ) (used : ℕ) (bs : List ℕ) → used + length bs ≤ length out → take (used + length bs) (patch out used bs) ≡ take used out ++ bs
unfolding patch
take_more out used bs h =
    ap (take (used + length bs)) (sym (append_assoc (take used out) bs (drop (length bs) (drop used out))))
    ∙ take_at (take used out ++ bs) (drop (length bs) (drop used out)) (used + length bs)
    (simp (length-append, length-take) (omega arith))

-- lists that are the same from a place on are the same further on
drop_more : (x y : List ℕ) (a b : ℕ) → drop a x ≡ drop a y → drop (a + b) x ≡ drop (a + b) y
drop_more x y a b e = sym (drop-drop b a x) ∙ ap (drop b) e ∙ drop-drop b a y

-- ## The loop

-- the slots before place k of the list are given back, and their records fill the first bytes of the output
pub record Handing (c : ℕ) (other : EndReason) (s₀ l : List ℕ) (n : ℕ) (out₀ s index free out : List ℕ) (used k : ℕ) : Type 0 where
  pub long : length s ≡ length s₀
  pub outs : length out ≡ length out₀
  pub header : (view c s).header ≡ (view c s₀).header
  pub tree : (view c s).tree ≡ (view c s₀).tree
  pub rest : (view c s).rest ≡ (view c s₀).rest
  pub table : freed_all (drop k (take n l)) (view c s).table ≡ freed_all (take n l) (view c s₀).table
  pub flows : (j : ℕ) → flow_in (slot_of (view c s).table j) ≡ flow_in (slot_of (view c s₀).table j)
  pub slots : All (OpenSlot c (view c s).table) (drop k (take n l))
  pub once : Once (drop k (take n l))
  pub ready : Ready s c index free
  pub fits : used + length (records_of other (view c s₀).table (drop k (take n l))) ≤ length out
  pub filled : take used out ++ records_of other (view c s₀).table (drop k (take n l)) ≡ records_of other (view c s₀).table (take n l)
  pub behind : drop used out ≡ drop used out₀

module _ (c : ℕ) (other : EndReason) (s₀ l : List ℕ) (n : ℕ) (index₀ free₀ out₀ : List ℕ) (asked : HandAsked c other s₀ l n index₀ free₀ out₀) where
  pub hand_begins : Handing c other s₀ l n out₀ s₀ index₀ free₀ out₀ 0 0
  hand_begins = record {
    long = refl;
    outs = refl;
    header = refl;
    tree = refl;
    rest = refl;
    table = refl;
    flows = λ j. refl;
    slots = asked.slots;
    once = asked.once;
    ready = asked.ready;
    fits = omega (arith, asked.room);
    filled = refl;
    behind = refl;
  }

  module _ (s index free out : List ℕ) (used k : ℕ) (p : Handing c other s₀ l n out₀ s index free out used k) where
    module _ (more : k < length (take n l)) where
      abbrev i : ℕ
      i = get_or (take n l) k 0

      abbrev left : List ℕ
      left = drop (k + 1) (take n l)

      listed : drop k (take n l) ≡ i ∷ left
      listed = next_listed (take n l) k more

      open_slots : All (OpenSlot c (view c s).table) (i ∷ left)
      open_slots = subst (All (OpenSlot c (view c s).table)) listed p.slots

      apart : Once (i ∷ left)
      apart = subst Once listed p.once

      -- slot i's record
      abbrev bytes : List ℕ
      bytes = record_bytes (flow_as (finish_or engine other (flow_in (slot s i))))

      -- it comes first of the records that are left
      next_records : records_of other (view c s₀).table (drop k (take n l)) ≡ bytes ++ records_of other (view c s₀).table left
      next_records =
          ap (records_of other (view c s₀).table) listed
          ∙ ap (λ (f : Flow engine). record_bytes (flow_as (finish_or engine other f)) ++ records_of other (view c s₀).table left)
          (sym (p.flows i) ∙ ap flow_in (slot_view s c i open_slots.0.low))

      -- there is room for it
      pub hand_room : used + length bytes ≤ length out
      hand_room = omega (arith, p.fits, ap length next_records, length-append bytes (records_of other (view c s₀).table left))

      pub one_asked : OneAsked c i other s index free (take (length out - used) (drop used out))
      one_asked = record {
        size = omega (arith, asked.size, p.long);
        low = open_slots.0.low;
        used = ap is_used (sym (slot_view s c i open_slots.0.low)) ∙ open_slots.0.used;
        ready = p.ready;
        room = omega (arith, hand_room, ap length (lent_rest out used), length-drop used out);
      }

      pub hand_goes : (s' index' free' t : List ℕ) (r : ℕ) → length s' ≡ length s → Closed c i s s' index' free'
          → Wrote (flow_as (finish_or engine other (flow_in (slot s i)))) (take (length out - used) (drop used out)) t r
          → Handing c other s₀ l n out₀ s' index' free' (put_mid used (length out - used) out t) (used + r) (k + 1)
      hand_goes s' index' free' t r same closed wrote =
          let v = closed.state in
          let others = records_of other (view c s₀).table left in
          let out' = put_mid used (length out - used) out t in
          let eo : out' ≡ patch out used bytes = rest_back out t used bytes wrote.output in
          let len : length out' ≡ length out = ap length eo ∙ length_patch out used bytes hand_room in
          let at : used + r ≡ used + length bytes = omega (arith, wrote.bytes) in
          record {
            long = same ∙ p.long;
            outs = len ∙ p.outs;
            header = ap (λ (w : View). w.header) v ∙ p.header;
            tree = ap (λ (w : View). w.tree) v ∙ p.tree;
            rest = ap (λ (w : View). w.rest) v ∙ p.rest;
            table = ap (λ (w : View). freed_all left w.table) v ∙ ap (λ (x : List ℕ). freed_all x (view c s).table) (sym listed) ∙ p.table;
            flows = λ j. ap (λ (w : View). flow_in (slot_of w.table j)) v ∙ flows_freed (view c s).table i j ∙ p.flows j;
            slots =
                subst (λ (w : View). All (OpenSlot c w.table) left) (sym v)
                (open_freed c (view c s).table i left apart.0 open_slots.1);
            once = apart.1;
            ready = closed.ready;
            fits = omega (arith, at, len, p.fits, ap length next_records, length-append bytes others);
            filled =
                ap (λ (m : ℕ). take m out' ++ others) at ∙ ap (λ (x : List ℕ). take (used + length bytes) x ++ others) eo
                ∙ ap (λ (x : List ℕ). x ++ others) (take_more out used bytes hand_room) ∙ append_assoc (take used out) bytes others
                ∙ ap (λ (x : List ℕ). take used out ++ x) (sym next_records) ∙ p.filled;
            behind =
                ap (λ (m : ℕ). drop m out') at ∙ ap (drop (used + length bytes)) eo
                ∙ drop_behind out used bytes (used + length bytes) (omega arith) hand_room
                ∙ drop_more out out₀ used (length bytes) p.behind ∙ ap (λ (m : ℕ). drop m out₀) (sym at);
          }

    pub hand_ends : length (take n l) ≤ k → Handed c other (view c s₀) (view c s) (take n l) out₀ out used
    unfolding patch
    hand_ends h =
        let e = none_listed (take n l) k h in
        let all = records_of other (view c s₀).table (take n l) in
        let full : take used out ≡ all =
        sym (append-nil (take used out)) ∙ ap (λ (x : List ℕ). take used out ++ x) (sym (ap (records_of other (view c s₀).table) e)) ∙ p.filled in
        let bytes : used ≡ length all = omega (arith, ap length full, length-take used out, p.fits) in
        record {
          header = p.header;
          tree = p.tree;
          rest = p.rest;
          table = ap (λ (x : List ℕ). freed_all x (view c s).table) (sym e) ∙ p.table;
          output =
              sym (take-append-drop used out) ∙ ap (λ (x : List ℕ). x ++ drop used out) full
              ∙ ap (λ (x : List ℕ). all ++ x) (p.behind ∙ ap (λ (m : ℕ). drop m out₀) bytes);
          bytes = bytes;
        }
