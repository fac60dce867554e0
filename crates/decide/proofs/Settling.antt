-- What the functions of steps 3 and 4 answer, way by way. Assumes nothing.
use Rattle.forms.specs.declared.refusal.Refusal.{Refusal}
use Rattle.forms.specs.Refusals.{refusal_number, stop_number}
use Rattle.std.specs.Prelude.{None, Option, Some, is_some}
use mathlib.Core.Path.{◌≡◌, refl, sym, ap, ◌∙◌, subst}
use mathlib.Core.Bool.{Bool, true, false, not, cond, ◌&&◌}
use mathlib.Core.List.{List}
use Prim.Native.Nat.{ℕ, ◌+◌, ◌^◌, ◌≤◌, ◌<◌}
use native.Mathlib.Omega.{arith}
use lib.Dec.{eqb}
use Rattle.slots.specs.Table.{slot}
use Rattle.flow.specs.Counting.{opened_of, counted_of, has_room, RoomToCount}
use Rattle.flow.specs.RefusalLaws.{sound_with_room, opened_has_room}
use Rattle.flow.specs.declared.time.EndReason.TheVariants.{Fin, Rst}
use Rattle.flow.specs.declared.time.TimeResolution.{TimeResolution}
use Rattle.flow.specs.declared.record.Direction.{Direction}
use Rattle.flow.specs.declared.record.Direction.TheVariants.{Reverse}
use Rattle.flow.specs.declared.record.FlowRecord.{FlowRecord}
use Rattle.flow.specs.declared.record.PacketFacts.{PacketFacts}
use Rattle.key.specs.Key.{reversed_key}
use Rattle.key.specs.declared.key.FlowKey.{FlowKey}
use Rattle.wire.specs.declared.packet.Packet.{Packet}
use Rattle.rules.specs.Engine.{engine, both_fins}
use Rattle.state.specs.Slot.{record_in}
use Rattle.hand.specs.Slot.{HasRecord, HasFlow}
use Rattle.decide.specs.declared.choose.Choice.{Choice}
use Rattle.decide.specs.Settle.{record_before, RoomUnless, record_after, ending_by, name_by, freed_by, refusal_by, SettleAsked, Settled}
use Rattle.flow.specs.declared.time.EndReason.{EndReason}

-- ## The record before the packet

pub has_record : (s : List ℕ) (i : ℕ) → HasFlow s i → HasRecord s i
has_record s i h = record { size = h.size; fit = h.sound.fit }

module _ (s : List ℕ) (f : Option ℕ) (resolution : TimeResolution) (p : Packet) {r : FlowRecord} where
  pub before_slot : (i : ℕ) → f ≡ Some i → r ≡ record_in (slot s i) → r ≡ record_before s f resolution p
  before_slot i e h = h ∙ sym (ap (λ (x : Option ℕ). record_before s x resolution p) e)

  pub before_new : f ≡ None → r ≡ opened_of resolution p.key.protocol p.facts → r ≡ record_before s f resolution p
  before_new e h = h ∙ sym (ap (λ (x : Option ℕ). record_before s x resolution p) e)

-- ## The record with the packet counted

module _ (refusal : Option Refusal) (before : FlowRecord) (d : Direction) (facts : PacketFacts) where
  pub after_counted : {r : FlowRecord} → refusal ≡ None → r ≡ counted_of before d facts → r ≡ record_after (stop_number refusal) before d facts
  after_counted e h = rw (e, h)

  pub after_kept : (why : Refusal) → refusal ≡ Some why → before ≡ record_after (stop_number refusal) before d facts
  after_kept why e = rw e (kept why)
    where
      kept : (x : Refusal) → before ≡ record_after (refusal_number x) before d facts
      kept Refusal.Capacity = refl
      kept Refusal.Memory = refl
      kept Refusal.Damaged = refl
      kept Refusal.Packet = refl
      kept Refusal.Full = refl
      kept Refusal.Spent = refl
      kept Refusal.Room = refl
      kept Refusal.Record = refl
      kept Refusal.Short = refl

-- ## The end, and the name

module _ (ended : Option ℕ) (rst closed a : Bool) (is : a ≡ is_some ended) (none-ended : a ≡ false) where
  unended : ending_by (is_some ended) rst closed ≡ ending_by false rst closed
  unended = ap (λ (b : Bool). ending_by b rst closed) (sym is ∙ none-ended)

  pub ends_rst : rst ≡ true → Some Rst ≡ ending_by (is_some ended) rst closed
  ends_rst e = sym (unended ∙ ap (λ (b : Bool). ending_by false b closed) e)

  pub ends_fin : rst ≡ false → closed ≡ true → Some Fin ≡ ending_by (is_some ended) rst closed
  ends_fin e q = sym (unended ∙ (λ t. ending_by false (e t) (q t)))

pub named_turned : (key : FlowKey) (d : Direction) {r : FlowKey} → d ≡ Reverse → r ≡ reversed_key key → r ≡ name_by key d
named_turned key d e h = h ∙ sym (ap (name_by key) e)

-- ## The refusal

-- the sum does not wrap
pub room_fits : (room : ℕ) (ended : Option ℕ) {n : ℕ} → room ≤ 4096 → n ≡ freed_by ended → room + n < 2 ^ 64
room_fits room (Some i) few e = omega arith
room_fits room None few e = omega arith

module _ (room : ℕ) (ended slot : Option ℕ) (fits : Bool) {a : Bool} {n : ℕ} (is : a ≡ is_some slot) (frees : n ≡ freed_by ended) where
  told : {b : Bool} → (not a && eqb (room + n) 0) ≡ b → refusal_by room ended slot fits ≡ cond b 5 (cond fits 0 6)
  told e = sym (λ t. cond ((sym e ∙ (λ u. not (is u) && eqb (room + frees u) 0)) t) 5 (cond fits 0 6))

  pub refused_full : (not a && eqb (room + n) 0) ≡ true → 5 ≡ refusal_by room ended slot fits
  refused_full e = sym (told e)

  module _ (open-left : (not a && eqb (room + n) 0) ≡ false) where
    pub not_refused : fits ≡ true → 0 ≡ refusal_by room ended slot fits
    not_refused e = sym (told open-left ∙ ap (λ (b : Bool). cond b 0 6) e)

    pub refused_spent : fits ≡ false → 6 ≡ refusal_by room ended slot fits
    refused_spent e = sym (told open-left ∙ ap (λ (b : Bool). cond b 0 6) e)

-- ## All of it

-- a packet that is not refused has room
unrefused : (full fits : Bool) → ◌≡◌ {A = ℕ} (cond full 5 (cond fits 0 6)) 0 → fits ≡ true
unrefused true fits e = absurd (omega arith)
unrefused false true e = refl
unrefused false false e = absurd (omega arith)

room_before : (s : List ℕ) (room : ℕ) (f : Option ℕ) (resolution : TimeResolution) (p : Packet) → SettleAsked s room p f
    → has_room (record_before s f resolution p) p.facts ≡ true → RoomToCount (record_before s f resolution p) p.facts
room_before s room (Some i) resolution p ask h = sound_with_room (record_in (slot s i)) p.facts (ask.sound i refl).sound.sound h
room_before s room None resolution p ask h =
    opened_has_room resolution p.key.protocol p.facts (omega (arith, ask.in_range.facts.frame)) (omega (arith, ask.in_range.facts.captured))

pub room_unless : (s : List ℕ) (room : ℕ) (ended f : Option ℕ) (resolution : TimeResolution) (p : Packet) {before : FlowRecord} {fits : Bool} {refusal : ℕ}
    → SettleAsked s room p f → before ≡ record_before s f resolution p → fits ≡ has_room before p.facts → refusal ≡ refusal_by room ended f fits
    → RoomUnless refusal before p.facts
room_unless s room ended f resolution p {before} {fits} ask is test e z =
    let h = unrefused (not (is_some f) && eqb (room + freed_by ended) 0) fits (sym e ∙ z) in
    subst (λ (r : FlowRecord). RoomToCount r p.facts) (sym is)
    (room_before s room f resolution p ask (ap (λ (r : FlowRecord). has_room r p.facts) (sym is) ∙ sym test ∙ h))

pub settled : (s : List ℕ) (room : ℕ) (resolution : TimeResolution) (p : Packet) (choice : Choice) {before after : FlowRecord} {name : FlowKey}
    {rst closed fits : Bool} {refusal : Option Refusal} {reason : Option EndReason}
    → before ≡ record_before s choice.slot resolution p → rst ≡ engine.rst p → closed ≡ both_fins before
    → reason ≡ ending_by (is_some choice.ended) rst closed → fits ≡ has_room before p.facts
    → stop_number refusal ≡ refusal_by room choice.ended choice.slot fits → name ≡ name_by p.key choice.direction
    → after ≡ record_after (stop_number refusal) before choice.direction p.facts
    → Settled s room resolution p choice
    (record { refusal = refusal; ended = choice.ended; slot = choice.slot; name = name; «record» = after; reason = reason })
settled s room resolution p choice {refusal = refusal} is r c e f q n a = record {
  ended = refl;
  slot = refl;
  refusal = q ∙ ap (refusal_by room choice.ended choice.slot) (f ∙ ap (λ (x : FlowRecord). has_room x p.facts) is);
  name = n;
  record_is = a ∙ ap (λ (x : FlowRecord). record_after (stop_number refusal) x choice.direction p.facts) is;
  reason = e ∙ (λ t. ending_by (is_some choice.ended) (r t) ((c ∙ ap both_fins is) t));
}
