-- A flow that opens: the free slot that it gets, and the keys that no flow is under. Assumes nothing.
use Rattle.std.specs.Prelude.{ℕ, ◌<◌, ◌≡◌, List, get_or, None, Option, Some}
use Rattle.std.proofs.Common.{ap, ◌∙◌, arith}
use Rattle.slots.specs.Table.{slot, slots}
use Rattle.slots.proofs.Laws.{get_d_slots}
use Rattle.index.specs.Reversed.{Absent}
use Rattle.index.proofs.Laws.{absent_unless}
use Rattle.rules.specs.Rules.{Flow, under}
use Rattle.rules.specs.Engine.{engine}
use Rattle.rules.specs.Slots.{meaning}
use Rattle.rules.proofs.SlotsLaws.{found}
use Rattle.state.specs.Slot.{flow_in, slot_flow}
use Rattle.state.specs.State.{SoundFlows, slots_of}
use Rattle.state.specs.Free.{free_count, last_low, last_unused}
use Rattle.state.specs.Ready.{Ready}
use Rattle.state.specs.Change.{last_free, used_flow, free_flow, slots_of_at, own_bytes, distinct_flows}

-- the last of the free slots lies in the table, and has no flow
module _ (s : List ℕ) (c : ℕ) (index free : List ℕ) (ready : Ready s c index free) (some-free : 0 < free_count free) where
  pub last_free_low : last_free free < c
  last_free_low = last_low s c free ready.unused some-free

  pub last_free_none : get_or (slots_of (slots s c)) (last_free free) None ≡ None
  last_free_none =
      slots_of_at (slots s c) (last_free free) ∙ ap slot_flow (get_d_slots s c (last_free free) last_free_low)
      ∙ free_flow (slot s (last_free free)) (last_unused s c free ready.unused some-free)

-- a flow is either there or not
not_both : {o : Option (Flow engine)} {f : Flow engine} → o ≡ Some f → o ≡ None → ⊥
not_both {o} {f} p q = let z : ◌≡◌ {A = ℕ} 0 1 = cc in omega arith

-- where no flow is under a key, no slot is used under it
pub under_absent : (s : List ℕ) (c : ℕ) (bytes : List ℕ) → SoundFlows s c → under engine bytes (meaning engine (slots_of (slots s c))) ≡ None
    → Absent s c bytes
under_absent s c bytes h e = absent_unless s c bytes λ k low used own.
    let there : get_or (slots_of (slots s c)) k None ≡ Some (flow_in (slot s k)) =
    slots_of_at (slots s c) k ∙ ap slot_flow (get_d_slots s c k low) ∙ used_flow (slot s k) used in
    not_both (found engine (slots_of (slots s c)) k (flow_in (slot s k)) there (distinct_flows s c h))
    (ap (λ (b : List ℕ). under engine b (meaning engine (slots_of (slots s c)))) (own_bytes s c k h low used ∙ own) ∙ e)
