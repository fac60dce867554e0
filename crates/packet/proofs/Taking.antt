-- The flow that takes a packet that is not refused: it is sound, it is not ended, and it ends no earlier than it did. Assumes nothing.
use Rattle.forms.specs.Refusals.{stop_number}
use Rattle.std.specs.Prelude.{None, Option, Some}
use Prim.Native.Nat.{ℕ, ◌≤◌, ◌<◌}
use mathlib.Core.Path.{◌≡◌, refl, sym, ap, ◌∙◌, subst}
use mathlib.Core.Bool.{Bool, true, false, cond}
use mathlib.Core.List.{List}
use native.Mathlib.Omega.{arith}
use borrow.Author.Tests.{leb-false}
use lib.ListN.{length}
use Rattle.slots.specs.Table.{slot, slots}
use Rattle.table.specs.Due.{end_of}
use Rattle.words.specs.Kept.{open_record}
use Rattle.key.specs.Key.{reversed_key}
use Rattle.key.specs.declared.key.FlowKey.{FlowKey}
use Rattle.flow.specs.Counting.{opened_of, counted_of}
use Rattle.flow.specs.CountingLaws.{counted_end, counting_keeps}
use Rattle.flow.specs.declared.record.Direction.{Direction}
use Rattle.flow.specs.declared.record.Direction.TheVariants.{Forward, Reverse}
use Rattle.flow.specs.declared.record.FlowRecord.{FlowRecord}
use Rattle.wire.specs.declared.packet.Packet.{Packet}
use Rattle.rules.specs.Rules.{Settings, Flow, Taker, old, under, chosen, taker, taking, is_full, is_spent}
use Rattle.rules.specs.Engine.{engine, key_bytes, is_association, begun_with}
use Rattle.rules.specs.EngineLaws.{SoundFlow}
use Rattle.rules.proofs.EngineTermsLaws.{engine_keys, engine_held}
use Rattle.rules.specs.Slots.{Slots}
use Rattle.rules.specs.Sound.{TwoWay}
use Rattle.state.specs.Slot.{key_in, words_in, record_in, flow_in}
use Rattle.state.specs.State.{SoundFlows}
use Rattle.state.specs.Meaning.{slot_sound}
use Rattle.plan.proofs.Flows.{end_told}
use Rattle.decide.specs.Decide.{staying_slots, left_flows, taker_on, Chosen}
use Rattle.decide.specs.Settle.{name_by}
use Rattle.decide.specs.declared.decide.Decision.{Decision}
use Rattle.decide.proofs.Chosen.{takes_old, takes_new, name_old}
use Rattle.packet.specs.Doing.{DecidedFor}

-- a packet that is taken as reverse has no association's key
reverse_two_way : (p : Packet) (fs : List (Flow engine)) (f : Flow engine) → taker engine p fs ≡ old Reverse f → is_association p.key ≡ false
reverse_two_way p fs f e =
    go (under engine (key_bytes p.key) fs) (is_association p.key) refl (under engine (key_bytes (reversed_key p.key)) fs) e
  where
    go : (o : Option (Flow engine)) (a : Bool) → is_association p.key ≡ a → (g : Option (Flow engine)) → chosen engine o a g ≡ old Reverse f → is_association p.key ≡ false
    go (Some x) a q g h = absurd (let n : ◌≡◌ {A = ℕ} 0 1 = cc in omega arith)
    go None true q g h = absurd (let n : ◌≡◌ {A = ℕ} 0 1 = cc in omega arith)
    go None false q g h = q

-- neither Full nor Spent
both_false : (a b : Bool) → ◌≡◌ {A = ℕ} (cond a 5 (cond b 6 0)) 0 → (a ≡ false) × (b ≡ false)
both_false true b e = absurd (omega arith)
both_false false true e = absurd (omega arith)
both_false false false e = (refl, refl)

module _ (c T L w : ℕ) (s bytes : List ℕ) (d : Decision) (h : DecidedFor c T L w s bytes d) (flows : SoundFlows s c) (accepted : stop_number d.refusal ≡ 0) where
  abbrev settings : Settings
  settings = record { T = T; L = L; resolution = h.resolution; capacity = c }

  abbrev p : Packet
  p = h.packet

  abbrev l : Slots engine
  l = staying_slots T L w (slots s c)

  abbrev t : Taker engine
  t = taker_on p l

  abbrev way : Direction
  way = h.decided.direction

  abbrev choice : Chosen s c T L w p d.ended d.slot way
  choice = h.decided.chosen

  not_refused : (is_full engine settings (left_flows p l) t ≡ false) × (is_spent engine p t ≡ false)
  not_refused = both_false (is_full engine settings (left_flows p l) t) (is_spent engine p t) (sym h.decided.refusal ∙ accepted)

  -- ## A flow that is there

  module _ (i : ℕ) (e : d.slot ≡ Some i) where
    old_sound : SoundFlow (key_in (slot s i)) (record_in (slot s i))
    old_sound = slot_sound (slot s i) (flows.slots i (choice.slot_sits i e).low (choice.slot_sits i e).used)

    pub old_name : d.name ≡ key_in (slot s i)
    unfolding flow_in
    old_name = h.decided.name ∙ ap (λ (x : Taker engine). (taking engine settings p x).name) (takes_old choice i e)

    old_record : d.«record» ≡ counted_of (record_in (slot s i)) way p.facts
    unfolding flow_in
    old_record = h.decided.record_is accepted ∙ ap (λ (x : Taker engine). (taking engine settings p x).held) (takes_old choice i e)

    old_spent : engine.spent p (record_in (slot s i)) ≡ false
    unfolding flow_in
    old_spent = sym (ap (is_spent engine p) (takes_old choice i e)) ∙ not_refused.1

    -- it takes a packet as reverse only where it is no association
    old_way : TwoWay way (is_association (key_in (slot s i)))
    old_way = go way refl
      where
        go : (x : Direction) → way ≡ x → TwoWay x (is_association (key_in (slot s i)))
        go Forward q = tt
        go Reverse q =
            let name : reversed_key p.key ≡ key_in (slot s i) = ap (name_by p.key) (sym q) ∙ name_old choice flows i e h.in_range.key in
            sym (engine_keys.kind p.key (key_in (slot s i)) h.in_range.key old_sound.key (ap key_bytes name))
            ∙ reverse_two_way p (left_flows p l) (flow_in (slot s i)) (takes_old choice i e ∙ ap (λ (x : Direction). old x (flow_in (slot s i))) q)

    old_flow : SoundFlow d.name d.«record»
    old_flow =
        subst (λ (k : FlowKey). SoundFlow k d.«record») (sym old_name)
        (subst (SoundFlow (key_in (slot s i))) (sym old_record)
        (engine_held.counts way p (key_in (slot s i)) (record_in (slot s i)) h.in_range old_sound old_way old_spent))

    old_unended : d.«record».time.end_reason ≡ None
    unfolding record_in
    old_unended =
        ap (λ (r : FlowRecord). r.time.end_reason) old_record ∙ (counting_keeps (record_in (slot s i)) way p.facts).reason
        ∙ open_record (words_in (slot s i))

    -- its end moves on, if it moves
    pub old_grows : end_of (slot s i) ≤ d.«record».time.end.0
    unfolding flow_in
    old_grows =
        omega (
          arith,
          ap (λ (r : FlowRecord). r.time.end.0) old_record,
          counted_end (record_in (slot s i)) way p.facts,
          end_told (slot s i),
        )

  -- ## A flow that opens

  module _ (e : d.slot ≡ None) where
    pub new_name : d.name ≡ p.key
    new_name = h.decided.name ∙ ap (λ (x : Taker engine). (taking engine settings p x).name) (takes_new choice e)

    new_record : d.«record» ≡ begun_with h.resolution p
    new_record = h.decided.record_is accepted ∙ ap (λ (x : Taker engine). (taking engine settings p x).held) (takes_new choice e)

    new_flow : SoundFlow d.name d.«record»
    new_flow =
        subst (λ (k : FlowKey). SoundFlow k d.«record») (sym new_name)
        (subst (SoundFlow p.key) (sym new_record) (engine_held.begins h.resolution p h.in_range))

    new_unended : d.«record».time.end_reason ≡ None
    unfolding opened_of
    new_unended =
        ap (λ (r : FlowRecord). r.time.end_reason) new_record
        ∙ (counting_keeps (opened_of h.resolution p.key.protocol p.facts) Forward p.facts).reason

    -- fewer flows are open than there are slots
    pub new_room : length (left_flows p l) < c
    new_room =
        leb-false c (length (left_flows p l))
        (sym (ap (is_full engine settings (left_flows p l)) (takes_new choice e)) ∙ not_refused.0)

  -- ## Whichever takes the packet

  pub taken_flow : SoundFlow d.name d.«record»
  taken_flow = go d.slot refl
    where
      go : (f : Option ℕ) → d.slot ≡ f → SoundFlow d.name d.«record»
      go (Some i) e = old_flow i e
      go None e = new_flow e

  pub taken_unended : d.«record».time.end_reason ≡ None
  taken_unended = go d.slot refl
    where
      go : (f : Option ℕ) → d.slot ≡ f → d.«record».time.end_reason ≡ None
      go (Some i) e = old_unended i e
      go None e = new_unended e
