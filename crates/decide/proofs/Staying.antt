-- The search among the flows that stay finds what the rules find. Assumes nothing.
use Rattle.std.specs.Prelude.{None, Option, Some}
use mathlib.Core.Path.{◌≡◌, refl, sym, ap, ◌∙◌, subst}
use mathlib.Core.Bool.{Bool, true, false, not, cond}
use mathlib.Core.List.{List}
use Prim.Native.Nat.{ℕ, ◌+◌, ◌*◌, ◌≤◌, ◌<◌}
use native.Mathlib.Omega.{arith}
use lib.ListN.{length, get_or, take, get_or-map}
use Rattle.slots.specs.Table.{slot, slots, is_used, holds, first_where}
use Rattle.slots.proofs.Laws.{found_at, holds_true, get_d_slots}
use Rattle.index.specs.Hash.{hash_of}
use Rattle.index.proofs.Laws.{not_found_absent}
use Rattle.table.specs.Due.{end_of}
use Rattle.key.specs.Key.{reversed_key}
use Rattle.key.specs.KeyTheorems.{KeyInRange}
use Rattle.key.specs.declared.key.FlowKey.{FlowKey}
use Rattle.rules.specs.Due.{idle}
use Rattle.rules.specs.Laws.{Distinct}
use Rattle.rules.proofs.OrderLaws.{distinct_those}
use Rattle.rules.specs.Rules.{Flow, by_key, under}
use Rattle.rules.specs.Engine.{engine, key_bytes}
use Rattle.rules.specs.Slots.{occupied, meaning, keep}
use Rattle.rules.proofs.SlotsLaws.{found, missing}
use Rattle.state.specs.Slot.{flow_in, slot_flow}
use Rattle.state.specs.State.{SoundFlows, slots_of}
use Rattle.state.specs.Change.{slots_of_at, used_flow, found_under, absent_fresh, distinct_flows}
use Rattle.state.specs.SlotTest.{FrontWritten, front_taken, turned_hash}
use Rattle.plan.specs.Plan.{leaves_by}
use Rattle.plan.proofs.Flows.{end_told}
use Rattle.hand.specs.Acting.{at}
use Rattle.decide.specs.Decide.{staying_slots, Stays}
use Rattle.decide.specs.Search.{if_staying, InState, SearchAsked, FoundStaying}
use Rattle.decide.proofs.Finding.{occupied_keep, kept_found}

-- ## Whether a flow leaves

pub leaves_told : (s : List ℕ) (i T L w : ℕ) {end : ℕ} {r : Bool} → end ≡ end_of (slot s i) → r ≡ idle end T L w → r ≡ leaves_by T L w (flow_in (slot s i))
leaves_told s i T L w e t = t ∙ ap (λ (n : ℕ). idle n T L w) (e ∙ sym (end_told (slot s i)))

-- ## The slots as the sweep will leave them

module _ (s : List ℕ) (c T L w : ℕ) where
  -- the flow stays
  abbrev stay : Flow engine → Bool
  stay f = not (leaves_by T L w f)

  -- slot by slot
  kept_at : (r : Option ℕ) → at (staying_slots T L w (slots s c)) r ≡ keep engine stay (at (slots_of (slots s c)) r)
  unfolding staying_slots
  kept_at (Some i) = get_or-map (keep engine stay) (slots_of (slots s c)) i None
  kept_at None = refl

  -- a slot that stays has its flow
  pub sits_flow : (i : ℕ) → Stays s c T L w i → get_or (staying_slots T L w (slots s c)) i None ≡ Some (flow_in (slot s i))
  sits_flow i h =
      kept_at (Some i)
      ∙ ap (keep engine stay) (slots_of_at (slots s c) i ∙ ap slot_flow (get_d_slots s c i h.low) ∙ used_flow (slot s i) h.used)
      ∙ ap (λ (b : Bool). cond (not b) (Some (flow_in (slot s i))) None) h.stays

  module _ (flows : SoundFlows s c) where
    -- no two flows that stay have the same key bytes
    pub distinct_staying : Distinct (by_key engine) (occupied engine (staying_slots T L w (slots s c)))
    unfolding staying_slots
    distinct_staying =
        subst (Distinct (by_key engine)) (sym (occupied_keep engine stay (slots_of (slots s c))))
        (distinct_those (by_key engine) stay (occupied engine (slots_of (slots s c))) (distinct_flows s c flows))

    -- ## The search

    -- what a search by the index finds is the flow under the key
    found_first : (k : List ℕ) (r : Option ℕ) → r ≡ first_where (holds k) 0 (slots s c)
        → at (slots_of (slots s c)) r ≡ under engine k (meaning engine (slots_of (slots s c)))
    found_first k (Some i) e =
        let first = found_at s (holds k) c 0 i (sym e) in
        let (sits, own) = found_under s c i k flows (omega (arith, first.below)) first.passes in
        sits
        ∙ sym
        (subst (λ (x : List ℕ). under engine x (meaning engine (slots_of (slots s c))) ≡ Some (flow_in (slot s i))) (sym own)
        (found engine (slots_of (slots s c)) i (flow_in (slot s i)) sits (distinct_flows s c flows)))
    found_first k None e =
        sym (missing engine (slots_of (slots s c)) k (absent_fresh s c k flows (not_found_absent s c k (sym e))))

    -- .. and among those that stay, where it stays
    found_kept : (k : List ℕ) (r : Option ℕ) → r ≡ first_where (holds k) 0 (slots s c)
        → at (staying_slots T L w (slots s c)) r ≡ under engine k (meaning engine (staying_slots T L w (slots s c)))
    unfolding staying_slots
    found_kept k r e =
        kept_at r
        ∙ kept_found engine stay (slots_of (slots s c)) k (at (slots_of (slots s c)) r) (distinct_flows s c flows) (found_first k r e)

    -- the two ways out where a slot was found
    module _ (k : List ℕ) (i : ℕ) (e : Some i ≡ first_where (holds k) 0 (slots s c)) where
      found_low : i < c
      found_low = omega (arith, (found_at s (holds k) c 0 i (sym e)).below)

      found_used : is_used (slot s i) ≡ true
      found_used = (holds_true k (slot s i) (found_at s (holds k) c 0 i (sym e)).passes).0

      gone_told : leaves_by T L w (flow_in (slot s i)) ≡ true → FoundStaying s c T L w k None
      gone_told b = record {
        under =
            sym
            (sym (found_kept k (Some i) e) ∙ kept_at (Some i)
            ∙ ap (keep engine stay) (slots_of_at (slots s c) i ∙ ap slot_flow (get_d_slots s c i found_low) ∙ used_flow (slot s i) found_used)
            ∙ ap (λ (t : Bool). cond (not t) (Some (flow_in (slot s i))) None) b);
        sits = λ j z. absurd (let y : ◌≡◌ {A = ℕ} 0 1 = cc in omega arith);
      }

      there_told : leaves_by T L w (flow_in (slot s i)) ≡ false → FoundStaying s c T L w k (Some i)
      there_told b = record {
        under = found_kept k (Some i) e;
        sits = λ j z.
            let same : i ≡ j = cc in
            subst (Stays s c T L w) same (record { low = found_low; used = found_used; stays = b });
      }

    pub staying_told : (k : List ℕ) (f r : Option ℕ) → f ≡ first_where (holds k) 0 (slots s c) → r ≡ if_staying s T L w f → FoundStaying s c T L w k r
    staying_told k None r e q = subst (FoundStaying s c T L w k) (sym q) (record {
      under = found_kept k None e;
      sits = λ i z. absurd (let y : ◌≡◌ {A = ℕ} 0 1 = cc in omega arith);
    })
    staying_told k (Some i) r e q =
        subst (FoundStaying s c T L w k) (sym q) (go (leaves_by T L w (flow_in (slot s i))) refl)
      where
        go : (b : Bool) → leaves_by T L w (flow_in (slot s i)) ≡ b → FoundStaying s c T L w k (cond b None (Some i))
        go true b = gone_told k i e b
        go false b = there_told k i e b

-- ## What the functions of the search ask of each other

-- a slot that was found lies in the state
pub found_in : (s : List ℕ) (c : ℕ) (k : List ℕ) (f : Option ℕ) → 256 + 640 * c ≤ length s → f ≡ first_where (holds k) 0 (slots s c) → InState s f
found_in s c k f size e i q = omega (arith, (found_at s (holds k) c 0 i (sym e ∙ q)).below)

-- the two ways out of the test whether a slot's flow leaves
module _ (s : List ℕ) (T L w : ℕ) (f : Option ℕ) (i : ℕ) (b : Bool) (e : f ≡ Some i) (test : b ≡ leaves_by T L w (flow_in (slot s i))) where
  pub staying_gone : b ≡ true → None ≡ if_staying s T L w f
  staying_gone y = sym (ap (if_staying s T L w) e ∙ ap (λ (x : Bool). cond x None (Some i)) (sym test ∙ y))

  pub staying_there : b ≡ false → Some i ≡ if_staying s T L w f
  staying_there y = sym (ap (if_staying s T L w) e ∙ ap (λ (x : Bool). cond x None (Some i)) (sym test ∙ y))

-- the search under the reversed key, whose form was written at the front of `buffer`
module _ (s : List ℕ) (c : ℕ) (index : List ℕ) (k : FlowKey) (h : ℕ) (before buffer : List ℕ) (n : ℕ) (bytes : List ℕ)
    (written : FrontWritten (key_bytes (reversed_key k)) before buffer n) (lies : bytes ≡ take n buffer) where
  turned_bytes : bytes ≡ key_bytes (reversed_key k)
  turned_bytes = lies ∙ front_taken (key_bytes (reversed_key k)) before buffer n written

  pub turned_asked : SearchAsked s c index (key_bytes k) h → KeyInRange k → SearchAsked s c index bytes h
  turned_asked ask ok = record {
    size = ask.size;
    indexed = ask.indexed;
    flows = ask.flows;
    hash_is = turned_hash k h ok ask.hash_is ∙ ap hash_of (sym turned_bytes);
  }

  pub turned_told : (T L w : ℕ) (r : Option ℕ) → FoundStaying s c T L w bytes r → FoundStaying s c T L w (key_bytes (reversed_key k)) r
  turned_told T L w r = subst (λ (x : List ℕ). FoundStaying s c T L w x r) turned_bytes
