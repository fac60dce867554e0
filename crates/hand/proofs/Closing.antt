-- A slot is given back, and its flow is handed out. Assumes nothing.
use Prim.Native.Nat.{ℕ, ◌≤◌}
use mathlib.Core.Path.{◌≡◌, sym, ap, ◌∙◌, subst}
use mathlib.Core.List.{List}
use native.Mathlib.Omega.{arith}
use lib.ListN.{length}
use Rattle.slots.specs.Table.{slot, is_used, key_of}
use Rattle.table.specs.View.{View, view, slot_of, with_slot}
use Rattle.table.proofs.Laws.{slots_apart}
use Rattle.index.specs.Hash.{hash_of}
use Rattle.index.specs.Index.{entry_of, Has, Forgotten}
use Rattle.key.specs.Shard.{shard_of}
use Rattle.key.specs.declared.key.FlowKey.{FlowKey}
use Rattle.flow.specs.declared.time.EndReason.{EndReason}
use Rattle.wire.specs.declared.record.Flow.{Flow}
use Rattle.wire.specs.RecordForm.{record_bytes}
use Rattle.rules.specs.Rules.{finish_or}
use Rattle.rules.specs.Engine.{engine}
use Rattle.state.specs.Slot.{key_in, flow_in}
use Rattle.state.specs.Free.{pushed}
use Rattle.state.specs.Ready.{Ready}
use Rattle.state.specs.Change.{ready_closed}
use Rattle.hand.specs.Slot.{HasFlow, flow_as}
use Rattle.hand.specs.Act.{CloseAsked, Closed, OneAsked, Wrote, freed_slot}
use Rattle.hand.specs.Freed.{slot_freed}

-- ---- the slot is given back

module _ (c i : ℕ) (key : FlowKey) (s index free : List ℕ) (asked : CloseAsked c i key s index free) (h : ℕ) (hash : h ≡ shard_of key 524288) where
  -- the key's shard is the hash of the slot's key bytes
  own_hash : hash_of (key_of (slot s i)) ≡ h
  unfolding hash_of key_in
  own_hash = ap (λ (k : FlowKey). shard_of k 524288) (sym asked.own) ∙ sym hash

  -- the index has its entry
  pub entry_there : Has index (entry_of h i)
  entry_there = subst (λ (x : ℕ). Has index (entry_of x i)) own_hash (asked.ready.indexed.named i asked.low asked.used)

  pub slot_closed : (s' index' free' : List ℕ) → Forgotten (entry_of h i) index index'
      → view c s' ≡ with_slot i (freed_slot (slot_of (view c s).table i)) (view c s) → free' ≡ pushed i free → Closed c i s s' index' free'
  slot_closed s' index' free' gone given push =
      let changed = slots_apart s s' c i (freed_slot (slot_of (view c s).table i)) (ap (λ (v : View). v.table) given) asked.low in
      record {
        state = given;
        ready =
            subst (Ready s' c index') (sym push)
            (ready_closed s s' c i index index' free asked.ready asked.low asked.used
            (ap is_used changed.0 ∙ slot_freed (slot_of (view c s).table i)) changed.1
            (subst (λ (x : ℕ). Forgotten (entry_of x i) index index') (sym own_hash) gone));
      }

-- ---- its flow is handed out

module _ (c i : ℕ) (other : EndReason) (s index free out : List ℕ) (asked : OneAsked c i other s index free out) where
  pub flow_there : HasFlow s i
  flow_there = record {
    size = omega (arith, asked.size, asked.low);
    sound = asked.ready.flows.slots i asked.low asked.used;
  }

  module _ (f : Flow) (is : f ≡ flow_as (finish_or engine other (flow_in (slot s i)))) where
    pub record_fits : length (record_bytes f) ≤ length out
    record_fits = omega (arith, asked.room, ap (λ (g : Flow). length (record_bytes g)) is)

    own_key : f.key ≡ key_in (slot s i)
    unfolding flow_in
    own_key = ap (λ (g : Flow). g.key) is

    pub close_asked : CloseAsked c i f.key s index free
    close_asked = record { size = asked.size; low = asked.low; used = asked.used; own = own_key; ready = asked.ready }

    pub one_wrote : {out' : List ℕ} {r : ℕ} → Wrote f out out' r → Wrote (flow_as (finish_or engine other (flow_in (slot s i)))) out out' r
    one_wrote {out'} {r} w = subst (λ (g : Flow). Wrote g out out' r) is w
