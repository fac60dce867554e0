-- What is decided is what the rules say. Assumes nothing.
use Rattle.forms.specs.Refusals.{stop_number}
use Rattle.std.specs.Prelude.{None, Option, Some, is_some}
use mathlib.Core.Path.{◌≡◌, refl, sym, ap, ◌∙◌, subst}
use mathlib.Core.Bool.{Bool, true, false, not, cond, ◌&&◌}
use mathlib.Core.List.{List}
use Prim.Native.Nat.{ℕ, ◌+◌, ◌^◌}
use native.Mathlib.Omega.{arith}
use lib.Dec.{eqb, leb}
use lib.ListN.{length}
use borrow.Author.Tests.{eqb-true, eqb-false, eq-eqb, ne_eqb, le-leb, lt-leb, lt-ltb}
use Rattle.slots.specs.Table.{slot, slots}
use Rattle.flow.specs.Counting.{opened_of, counted_of, has_room}
use Rattle.flow.specs.declared.time.TimeResolution.{TimeResolution}
use Rattle.flow.specs.declared.record.Direction.{Direction}
use Rattle.flow.specs.declared.record.Direction.TheVariants.{Forward}
use Rattle.flow.specs.declared.record.FlowRecord.{FlowRecord}
use Rattle.flow.specs.declared.record.PacketFacts.{PacketFacts}
use Rattle.wire.specs.declared.packet.Packet.{Packet}
use Rattle.wire.specs.PacketTheorems.{FactsInRange, PacketInRange}
use Rattle.rules.specs.Rules.{Settings, Flow, Taker, old, new, opens, taking, was_closed, ending, is_full, is_spent}
use Rattle.rules.specs.Engine.{engine, both_fins}
use Rattle.rules.specs.Slots.{occupied}
use Rattle.state.specs.Slot.{flow_in}
use Rattle.state.specs.State.{SoundFlows}
use Rattle.decide.specs.declared.choose.Choice.{Choice}
use Rattle.decide.specs.declared.decide.Decision.{Decision}
use Rattle.decide.specs.Decide.{staying_slots, ended_flow, left_flows, taker_on, held_before, swept_slots, DecideAsked, Chosen, Decided}
use Rattle.decide.specs.Settle.{record_before, ending_by, name_by, freed_by, SettleAsked, Settled}
use Rattle.decide.proofs.Chosen.{ended_flow_lem, ended_none, takes_old, takes_new, left_length, name_old}

-- ## Steps 3 and 4 by the slot that takes the packet

-- the taker by its slot
abbrev taker_at : List ℕ → Option ℕ → Direction → Taker engine
taker_at s (Some i) d = old d (flow_in (slot s i))
taker_at s None d = new

-- a record that opens has room for its packet
opened_fits : (resolution : TimeResolution) (protocol : ℕ) (p : PacketFacts) → FactsInRange p → has_room (opened_of resolution protocol p) p ≡ true
unfolding has_room opened_of
opened_fits resolution protocol p h =
    λ t.
    lt-ltb (0 + 0 + 1) (2 ^ 64) (omega arith) t
    && lt-ltb (0 + 0 + p.frame_octets) (2 ^ 64) (omega (arith, h.frame)) t
    && lt-ltb (0 + p.captured_octets) (2 ^ 64) (omega (arith, h.captured)) t

module _ (S : Settings) (s : List ℕ) (p : Packet) (d : Direction) where
  before_is : (f : Option ℕ) → record_before s f S.resolution p ≡ held_before S p (taker_at s f d)
  unfolding flow_in
  before_is (Some i) = refl
  before_is None = refl

  -- a flow opens forward
  held_is : (f : Option ℕ) → (f ≡ None → d ≡ Forward) → counted_of (record_before s f S.resolution p) d p.facts ≡ (taking engine S p (taker_at s f d)).held
  unfolding flow_in
  held_is (Some i) forward = refl
  held_is None forward = ap (λ (x : Direction). counted_of (opened_of S.resolution p.key.protocol p.facts) x p.facts) (forward refl)

  closed_is : (f : Option ℕ) → both_fins (record_before s f S.resolution p) ≡ was_closed engine (taker_at s f d)
  unfolding flow_in opened_of
  closed_is (Some i) = refl
  closed_is None = refl

  -- a flow that opens is never Spent
  spent_is : (f : Option ℕ) → FactsInRange p.facts → not (has_room (record_before s f S.resolution p) p.facts) ≡ is_spent engine p (taker_at s f d)
  unfolding flow_in
  spent_is (Some i) h = refl
  spent_is None h = ap not (opened_fits S.resolution p.key.protocol p.facts h)

  opens_is : (f : Option ℕ) → not (is_some f) ≡ opens engine (taker_at s f d)
  opens_is (Some i) = refl
  opens_is None = refl

-- ## Full

-- as many flows as slots are open exactly if there is no room
full_is : (n room c : ℕ) → n + room ≡ c → eqb room 0 ≡ leb c n
full_is n room c e = go (eqb room 0) refl
  where
    go : (b : Bool) → eqb room 0 ≡ b → b ≡ leb c n
    go true q = sym (le-leb c n (omega (arith, eqb-true room 0 q)))
    go false q = sym (lt-leb c n (let z = eqb-false room 0 q in omega arith))

refusal_same : (full fits : Bool) → ◌≡◌ {A = ℕ} (cond full 5 (cond fits 0 6)) (cond full 5 (cond (not fits) 6 0))
refusal_same true fits = refl
refusal_same false true = refl
refusal_same false false = refl

-- ## The decision

module _ (S : Settings) (s : List ℕ) (w : ℕ) (p : Packet) (room : ℕ) (choice : Choice) (r : Decision)
    (h : Chosen s S.capacity S.T S.L w p choice.ended choice.slot choice.direction)
    (flows : SoundFlows s S.capacity) (in_range : PacketInRange p)
    (room_is : length (occupied engine (swept_slots S s w)) + room ≡ S.capacity)
    (made : Settled s room S.resolution p choice r) where
  abbrev before : FlowRecord
  before = record_before s choice.slot S.resolution p

  abbrev t : Taker engine
  t = taker_on p (swept_slots S s w)

  taker_is : taker_at s choice.slot choice.direction ≡ t
  taker_is = go choice.slot refl
    where
      go : (f : Option ℕ) → choice.slot ≡ f → taker_at s choice.slot choice.direction ≡ t
      go (Some i) e = ap (λ (x : Option ℕ). taker_at s x choice.direction) e ∙ sym (takes_old h i e)
      go None e = ap (λ (x : Option ℕ). taker_at s x choice.direction) e ∙ sym (takes_new h e)

  held_before_lem : before ≡ held_before S p t
  held_before_lem = before_is S s p choice.direction choice.slot ∙ ap (held_before S p) taker_is

  held_after : counted_of before choice.direction p.facts ≡ (taking engine S p t).held
  held_after =
      held_is S s p choice.direction choice.slot h.opens_forward ∙ ap (λ (x : Taker engine). (taking engine S p x).held) taker_is

  full_told : (not (is_some choice.slot) && eqb (room + freed_by choice.ended) 0) ≡ is_full engine S (left_flows p (swept_slots S s w)) t
  full_told =
      λ i.
      (opens_is S s p choice.direction choice.slot ∙ ap (opens engine) taker_is) i
      && full_is (length (left_flows p (swept_slots S s w))) (room + freed_by choice.ended) S.capacity (omega (arith, left_length h flows, room_is)) i

  refusal_told : stop_number r.refusal ≡ cond (is_full engine S (left_flows p (swept_slots S s w)) t) 5 (cond (is_spent engine p t) 6 0)
  refusal_told =
      made.refusal
      ∙ refusal_same (not (is_some choice.slot) && eqb (room + freed_by choice.ended) 0) (has_room before p.facts)
      ∙ (λ i.
      cond (full_told i) 5
      (cond ((spent_is S s p choice.direction choice.slot in_range.facts ∙ ap (is_spent engine p) taker_is) i) 6 0))

  name_told : r.name ≡ (taking engine S p t).name
  unfolding flow_in
  name_told = made.name ∙ go choice.slot refl ∙ ap (λ (x : Taker engine). (taking engine S p x).name) taker_is
    where
      go : (f : Option ℕ) → choice.slot ≡ f → name_by p.key choice.direction ≡ (taking engine S p (taker_at s choice.slot choice.direction)).name
      go (Some i) e =
          name_old h flows i e in_range.key
          ∙ sym (ap (λ (x : Option ℕ). (taking engine S p (taker_at s x choice.direction)).name) e)
      go None e =
          ap (name_by p.key) (h.opens_forward e)
          ∙ sym (ap (λ (x : Option ℕ). (taking engine S p (taker_at s x choice.direction)).name) e)

  reason_told : ending_by (is_some choice.ended) (engine.rst p) (both_fins before) ≡ ending engine (ended_flow p (swept_slots S s w)) p t
  reason_told = ap (ending_by (is_some choice.ended) (engine.rst p)) closed ∙ go choice.ended refl
    where
      closed : both_fins before ≡ was_closed engine t
      closed = closed_is S s p choice.direction choice.slot ∙ ap (was_closed engine) taker_is

      go : (e : Option ℕ) → choice.ended ≡ e
          → ending_by (is_some choice.ended) (engine.rst p) (was_closed engine t) ≡ ending engine (ended_flow p (swept_slots S s w)) p t
      go (Some i) e =
          ap (λ (x : Option ℕ). ending_by (is_some x) (engine.rst p) (was_closed engine t)) e
          ∙ sym (ap (λ (o : Option (Flow engine)). ending engine o p t) (ended_flow_lem h i e))
      go None e =
          ap (λ (x : Option ℕ). ending_by (is_some x) (engine.rst p) (was_closed engine t)) e
          ∙ sym (ap (λ (o : Option (Flow engine)). ending engine o p t) (ended_none h e))

  chosen_told : Chosen s S.capacity S.T S.L w p r.ended r.slot choice.direction
  chosen_told =
      subst (λ (x : Option ℕ). Chosen s S.capacity S.T S.L w p x r.slot choice.direction) (sym made.ended)
      (subst (λ (x : Option ℕ). Chosen s S.capacity S.T S.L w p choice.ended x choice.direction) (sym made.slot) h)

  pub decided : Decided S s w p r
  decided = record {
    direction = choice.direction;
    chosen = chosen_told;
    refusal = refusal_told;
    name = name_told;
    record_is = λ z.
        made.record_is
        ∙ ap (λ (b : Bool). cond b (counted_of before choice.direction p.facts) before) (eq-eqb (stop_number r.refusal) 0 z)
        ∙ held_after;
    record_kept = λ n.
        made.record_is
        ∙ ap (λ (b : Bool). cond b (counted_of before choice.direction p.facts) before) (ne_eqb (stop_number r.refusal) 0 n)
        ∙ held_before_lem;
    reason = made.reason ∙ reason_told;
  }

-- what steps 3 and 4 ask
pub settle_asked : (s : List ℕ) (c T L w : ℕ) (index : List ℕ) (p : Packet) (bytes : List ℕ) (room : ℕ) {ended found : Option ℕ} {d : Direction}
    → DecideAsked s c index p bytes → length (occupied engine (staying_slots T L w (slots s c))) + room ≡ c → Chosen s c T L w p ended found d
    → SettleAsked s room p found
settle_asked s c T L w index p bytes room ask room_is h = record {
  sound = λ i e.
      let sits = h.slot_sits i e in
      record { size = omega (arith, ask.size, sits.low); sound = ask.flows.slots i sits.low sits.used };
  in_range = ask.in_range;
  few = omega (arith, ask.indexed.small);
}
