-- What the rules answer to the packet, by what was decided. Assumes nothing.
use Rattle.forms.specs.Refusals.{stop_number}
use mathlib.Core.Path.{◌≡◌, refl, sym, ap, ◌∙◌}
use mathlib.Core.Bool.{Bool, true, false, not, cond}
use mathlib.Core.List.{List}
use Prim.Native.Nat.{ℕ}
use native.Mathlib.Omega.{arith}
use Rattle.slots.specs.Table.{slots}
use Rattle.wire.specs.declared.packet.Packet.{Packet}
use Rattle.rules.specs.Rules.{Settings, Refusal, Full, Spent, number_of, Flow, Engine, Answer, refused, clock_at, swept, staying, is_full, is_spent, fitted, steps34, steps1234, reused, one_packet}
use Rattle.rules.specs.Engine.{engine, time_of}
use Rattle.rules.specs.Slots.{Slots, meaning}
use Rattle.rules.proofs.SlotsLaws.{cleared}
use Rattle.state.specs.State.{slots_of}
use Rattle.plan.specs.Plan.{leaves_by}
use Rattle.decide.specs.declared.decide.Decision.{Decision}
use Rattle.decide.specs.Decide.{staying_slots, swept_slots, ended_flow, left_flows, taker_on, Decided}

-- the slots as the sweep will leave them mean the flows that stay
pub swept_meaning : (S : Settings) (s : List ℕ) (w : ℕ)
    → meaning engine (swept_slots S s w) ≡ staying engine S w (meaning engine (slots_of (slots s S.capacity)))
unfolding staying_slots
swept_meaning S s w = cleared engine (λ f. not (leaves_by S.T S.L w f)) (slots_of (slots s S.capacity))

-- the three answers
module _ (full spent : Bool) (n : ℕ) (e : n ≡ cond full 5 (cond spent 6 0)) (taken : Answer engine) where
  accepted : n ≡ 0 → cond full (refused Full) (cond spent (refused Spent) taken) ≡ taken
  accepted z = go full spent (sym e ∙ z)
    where
      go : (a b : Bool) → ◌≡◌ {A = ℕ} (cond a 5 (cond b 6 0)) 0 → cond a (refused Full) (cond b (refused Spent) taken) ≡ taken
      go true b q = absurd (omega arith)
      go false true q = absurd (omega arith)
      go false false q = refl

  refusing : (n ≡ 0 → ⊥) → (x : Refusal) × (cond full (refused Full) (cond spent (refused Spent) taken) ≡ refused x) × (number_of x ≡ n)
  refusing m = go full spent e
    where
      go : (a b : Bool) → n ≡ cond a 5 (cond b 6 0) → (x : Refusal) × (cond a (refused Full) (cond b (refused Spent) taken) ≡ refused x) × (number_of x ≡ n)
      go true b q = (Full, refl, sym q)
      go false true q = (Spent, refl, sym q)
      go false false q = absurd (m q)

-- the packet comes to an engine with this clock and the flows of the state's slots, where the output has `room` bytes left
module _ {S : Settings} {s : List ℕ} {w : ℕ} {p : Packet} {r : Decision} (h : Decided S s w p r) (room : ℕ) (e : Engine engine)
    (clock : clock_at engine S e.clock (time_of p) ≡ w) (flows : e.flows ≡ meaning engine (slots_of (slots s S.capacity))) where
  -- the slots as the sweep will leave them
  abbrev table : Slots engine
  table = swept_slots S s w

  -- what the packet does if it is not refused as Full or Spent
  abbrev pub taken : Answer engine
  taken =
      fitted engine room (steps34 engine S w (swept engine S w e.flows) (ended_flow p table) p (left_flows p table) (taker_on p table))

  answer_is : one_packet engine S room p e
      ≡ cond (is_full engine S (left_flows p table) (taker_on p table)) (refused Full) (cond (is_spent engine p (taker_on p table)) (refused Spent) taken)
  unfolding one_packet
  answer_is =
      ap
      (λ (x : ℕ).
      steps1234 engine S room x (swept engine S x e.flows) p (staying engine S x e.flows) (reused engine p (staying engine S x e.flows)))
      clock
      ∙ ap (λ (fs : List (Flow engine)). steps1234 engine S room w (swept engine S w e.flows) p fs (reused engine p fs))
      (ap (staying engine S w) flows ∙ sym (swept_meaning S s w))

  pub answer_taken : stop_number r.refusal ≡ 0 → one_packet engine S room p e ≡ taken
  answer_taken z =
      answer_is
      ∙ accepted (is_full engine S (left_flows p table) (taker_on p table)) (is_spent engine p (taker_on p table)) (stop_number r.refusal) h.refusal taken z

  pub answer_refused : ((stop_number r.refusal) ≡ 0 → ⊥) → (x : Refusal) × (one_packet engine S room p e ≡ refused x) × (number_of x ≡ stop_number r.refusal)
  answer_refused n =
      let (x, is, number) = refusing (is_full engine S (left_flows p table) (taker_on p table)) (is_spent engine p (taker_on p table)) (stop_number r.refusal) h.refusal taken n in
      (x, answer_is ∙ is, number)
