-- What the slots mean once a packet's flows have been changed: what the plain rules' steps 3 and 4 leave. Assumes nothing.
use Rattle.std.specs.Prelude.{ℕ, ◌<◌, ◌≡◌, refl, length, get_or, None, Option, Some}
use Rattle.std.proofs.Math.Path.{sym, ap}
use Rattle.std.proofs.Common.{◌∙◌}
use Rattle.std.proofs.Math.Bool.{not}
use mathlib.Core.List.{List}
use Rattle.wire.specs.declared.packet.Packet.{Packet}
use Rattle.rules.specs.Order.{insert}
use Rattle.rules.specs.Laws.{Fresh, Distinct}
use Rattle.rules.specs.Rules.{Settings, Flow, Engine, Taker, Done, by_key, without, beside, keeping, reused, staying, swept, steps34, steps234, one_packet}
use Rattle.rules.specs.Rules as R
use Rattle.rules.specs.Engine.{engine}
use Rattle.rules.specs.Slots.{Slots, occupied, meaning}
use Rattle.rules.proofs.SlotsLaws.{freed, changed, entered, cleared}
use Rattle.plan.specs.Plan.{leaves_by}
use Rattle.act.specs.Settle.{settled_slots}
use Rattle.decide.specs.Decide.{staying_slots, ended_flow, left_flows, taker_on}
use Rattle.state.specs.State.{slots_of}
use Rattle.flow.specs.declared.time.EndReason.{EndReason}

-- ## Steps 3 and 4 on slots

-- slot i has the flow f, which takes the packet
pub record OldTaker (l : Slots engine) (fs : List (Flow engine)) (t : Taker engine) (flow : Flow engine) (i : ℕ) : Type 0 where
  pub was : Flow engine
  pub low : i < length l
  pub here : get_or l i None ≡ Some was
  pub name : was.name ≡ flow.name
  pub others : beside engine t fs ≡ without engine (by_key engine was) fs

-- no flow takes it, and a slot is free for a new one
pub record NewTaker (l : Slots engine) (fs : List (Flow engine)) (t : Taker engine) (flow : Flow engine) (reason : Option EndReason) (last : ℕ) : Type 0 where
  pub others : beside engine t fs ≡ fs
  pub low : reason ≡ None → last < length l
  pub empty : reason ≡ None → get_or l last None ≡ None
  pub alone : reason ≡ None → Fresh (by_key engine) (by_key engine flow) (occupied engine l)

module _ (l : Slots engine) (fs : List (Flow engine)) (means : meaning engine l ≡ fs) (apart-keys : Distinct (by_key engine) (occupied engine l))
    (t : Taker engine) (flow : Flow engine) (last : ℕ) where
  pub settled_means : (found : Option ℕ) (reason : Option EndReason) → ((i : ℕ) → found ≡ Some i → OldTaker l fs t flow i) → (found ≡ None → NewTaker l fs t flow reason last)
      → meaning engine (settled_slots found reason last flow.name flow.held l) ≡ keeping engine reason flow (beside engine t fs)
  settled_means (Some i) None old new =
      let o = old i refl in
      changed engine l i o.was flow o.low o.here o.name apart-keys
      ∙ ap (λ (x : List (Flow engine)). insert (by_key engine) flow (without engine (by_key engine o.was) x)) means ∙ ap (insert (by_key engine) flow) (sym o.others)
  settled_means (Some i) (Some r) old new =
      let o = old i refl in
      freed engine l i o.was o.here apart-keys ∙ ap (without engine (by_key engine o.was)) means ∙ sym o.others
  settled_means None None old new =
      let n = new refl in
      entered engine l last flow (n.low refl) (n.empty refl) (n.alone refl) ∙ ap (insert (by_key engine) flow) (means ∙ sym n.others)
  settled_means None (Some r) old new = means ∙ sym (new refl).others

-- ## The packet's answer, on slots

-- what the packet does if it is not refused
abbrev pub done_on : Settings → ℕ → List (R.Finished engine) → Packet → Slots engine → Done engine
done_on s w out p l = steps34 engine s w out (ended_flow p l) p (left_flows p l) (taker_on p l)

module _ (s : Settings) (p : Packet) (e : Engine engine) (table : List (List ℕ)) (w : ℕ) (clock : w ≡ R.clock_at engine s e.clock (engine.time p))
    (flows : e.flows ≡ meaning engine (slots_of table)) where
  abbrev sl : Slots engine
  sl = staying_slots s.T s.L w table

  pub stay : staying engine s w e.flows ≡ meaning engine sl
  unfolding staying_slots
  stay = ap (staying engine s w) flows ∙ sym (cleared engine (λ f. not (leaves_by s.T s.L w f)) (slots_of table))

  pub told_on : (room : ℕ) → one_packet engine s room p e
      ≡ steps234 engine s room w (swept engine s w e.flows) (ended_flow p sl) p (left_flows p sl) (taker_on p sl)
  unfolding R.one_packet
  told_on room =
      ap (λ (x : ℕ). R.steps1234 engine s room x (swept engine s x e.flows) p (staying engine s x e.flows) (reused engine p (staying engine s x e.flows))) (sym clock)
      ∙ ap (λ (x : List (Flow engine)). R.steps1234 engine s room w (swept engine s w e.flows) p x (reused engine p x)) stay
