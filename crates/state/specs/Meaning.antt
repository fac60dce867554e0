-- What a sound state means is a sound engine of the plain rules. Assumes nothing.
use Rattle.std.specs.Prelude.{ℕ, ◌≤◌, ◌<◌, ◌≡◌, Bool, true, false, get_or}
use Rattle.std.proofs.Math.Path.{refl}
use Rattle.std.proofs.Common.{sym, ap, ◌∙◌, subst}
use mathlib.Core.List.{List, []}
use native.Mathlib.Omega.{arith}
use Rattle.std.proofs.Math.ListN.{length}
use Rattle.slots.specs.Table.{slot, slots, is_used, key_of, NoKeyTwice}
use Rattle.slots.proofs.Laws.{get_d_slots, length_slots}
use Rattle.words.specs.Kept.{RecordInRange, record_in_range}
use Rattle.flow.specs.declared.record.FlowRecord.{FlowRecord}
use Rattle.flow.specs.Sound.{sound_aside}
use Rattle.key.specs.Key.{reversed_key}
use Rattle.key.specs.KeyTheorems.{KeyInRange}
use Rattle.key.specs.declared.key.FlowKey.{FlowKey}
use Rattle.rules.specs.Order.{equal}
use Rattle.rules.proofs.AccountLaws.{equal_true}
use Rattle.rules.specs.Rules.{by_key}
use Rattle.rules.specs.Engine.{engine, key_bytes, is_association}
use Rattle.rules.specs.EngineLaws.{SoundFlow}
use Rattle.rules.proofs.EngineSlotsLaws.{slots_sound}
use Rattle.rules.specs.EngineSlots as E
use Rattle.rules.specs.EngineSound.{SoundEngine}
use Rattle.rules.specs.Slots.{occupied}
use Rattle.rules.specs.Sound.{Pairs, Clear}
use Rattle.rules.specs.Totals.{All}
use Rattle.state.specs.Sitting.{all_sit, pairs_sit, few_sit}
use Rattle.state.specs.Slot.{key_in, words_in, record_in, flow_in, slot_flow, SoundSlot}
use Rattle.state.specs.State.{header_in, capacity_in, turned, one_way, SoundFlows, Sound, settings_of, settings_in, slots_of, meaning}

-- ## A sound slot's flow is sound

pub flow_of : (k : FlowKey) (r : FlowRecord) → KeyInRange k → sound_aside r ≡ true → RecordInRange r → SoundFlow k r
flow_of k r ok sound h = record {
  key = ok;
  sound = sound;
  start = h.start;
  end = h.end;
  forward = h.forward;
  reverse = h.reverse;
  ttl = h.ttl;
  dscp = h.dscp;
  ecn = h.ecn;
  icmp = h.icmp;
  captured = h.captured;
}

pub record_of_flow : (k : FlowKey) (r : FlowRecord) → SoundFlow k r → RecordInRange r
record_of_flow k r h = record {
  start = h.start;
  end = h.end;
  forward = h.forward;
  reverse = h.reverse;
  ttl = h.ttl;
  dscp = h.dscp;
  ecn = h.ecn;
  icmp = h.icmp;
  captured = h.captured;
}

pub slot_sound : (b : List ℕ) → SoundSlot b → SoundFlow (key_in b) (record_in b)
unfolding record_in
slot_sound b h = flow_of (key_in b) (record_in b) h.in_range h.sound (record_in_range (words_in b) h.fit h.words)

-- ## The flows of a state's slots

unequal : (a b : List ℕ) → (a ≡ b → ⊥) → equal a b ≡ false
unequal a b n = go (equal a b) refl
  where
    go : (t : Bool) → equal a b ≡ t → t ≡ false
    go true e = absurd (n (equal_true a b e))
    go false e = refl

module _ (s : List ℕ) (c : ℕ) (h : SoundFlows s c) where
  at_slot : (P : List ℕ → Type 0) (i : ℕ) → i < length (slots s c) → P (slot s i) → P (get_or (slots s c) i [])
  at_slot P i l p = subst P (sym (get_d_slots s c i (omega (arith, length_slots s c 0)))) p

  slot_at : (i : ℕ) → i < length (slots s c) → get_or (slots s c) i [] ≡ slot s i
  slot_at i l = get_d_slots s c i (omega (arith, length_slots s c 0))

  low : (i : ℕ) → i < length (slots s c) → i < c
  low i l = omega (arith, length_slots s c 0)

  own_key : (b : List ℕ) → SoundSlot b → by_key engine (flow_in b) ≡ key_of b
  unfolding flow_in
  own_key b k = k.key

  turned_key : (b : List ℕ) → key_bytes (reversed_key (flow_in b).name) ≡ turned (key_of b)
  unfolding flow_in key_in
  turned_key b = refl

  both_ways : (b : List ℕ) → is_association (flow_in b).name ≡ one_way (key_of b)
  unfolding flow_in key_in
  both_ways b = refl

  keys_once : (i j : ℕ) → i < c → j < c → is_used (slot s i) ≡ true → is_used (slot s j) ≡ true → key_of (slot s i) ≡ key_of (slot s j) → i ≡ j
  unfolding NoKeyTwice
  keys_once = h.once

  apart : (i j : ℕ) → (i ≡ j → ⊥) → i < c → j < c → is_used (slot s i) ≡ true → is_used (slot s j) ≡ true → Clear engine (flow_in (slot s i)) (flow_in (slot s j))
  apart i j n li lj ui uj =
      let si = h.slots i li ui in
      let sj = h.slots j lj uj in
      let ki = own_key (slot s i) si in
      let kj = own_key (slot s j) sj in (
        unequal _ _ (λ e. n (keys_once i j li lj ui uj (sym ki ∙ e ∙ kj))),
        (λ a. unequal _ _ (λ e. n (sym (h.not_reversed.alone j i lj li uj ui (sym (both_ways (slot s j)) ∙ a) (sym ki ∙ sym e ∙ turned_key (slot s j)))))),
        λ a. unequal _ _ (λ e. n (h.not_reversed.alone i j li lj ui uj (sym (both_ways (slot s i)) ∙ a) (sym kj ∙ sym e ∙ turned_key (slot s i)))),
      )

  pub all_flows : All (λ f. SoundFlow f.name f.held) (occupied engine (slots_of (slots s c)))
  unfolding slots_of slot_flow flow_in
  all_flows =
      all_sit [] engine is_used flow_in (λ f. SoundFlow f.name f.held) (slots s c)
      (λ i l u. at_slot (λ b. SoundFlow (key_in b) (record_in b)) i l (slot_sound (slot s i) (h.slots i (low i l) (ap is_used (sym (slot_at i l)) ∙ u))))

  pub all_clear : Pairs (Clear engine) (occupied engine (slots_of (slots s c)))
  unfolding slots_of slot_flow
  all_clear =
      pairs_sit [] engine is_used flow_in (Clear engine) (slots s c)
      (λ i j before l ui uj.
      let li : i < length (slots s c) = omega arith in
      at_slot (λ b. Clear engine (flow_in (get_or (slots s c) i [])) (flow_in b)) j l
      (at_slot (λ b. Clear engine (flow_in b) (flow_in (slot s j))) i li
      (apart i j (λ e. omega arith) (low i li) (low j l) (ap is_used (sym (slot_at i li)) ∙ ui) (ap is_used (sym (slot_at j l)) ∙ uj))))

  pub few_flows : length (occupied engine (slots_of (slots s c))) ≤ c
  unfolding slots_of slot_flow
  few_flows = omega (arith, few_sit [] engine is_used flow_in (slots s c), length_slots s c 0)

-- ## A sound state means a sound engine

pub sound_slots : (s : List ℕ) → Sound s → E.SoundSlots (settings_in s) (header_in s).clock.0 (slots_of (slots s (capacity_in s)))
unfolding settings_of
sound_slots s h = record {
  clear = all_clear s (capacity_in s) h.flows;
  records = all_flows s (capacity_in s) h.flows;
  few = few_flows s (capacity_in s) h.flows;
  still = h.header.still;
}

pub sound_engine : (s : List ℕ) → Sound s → SoundEngine (settings_in s) (meaning s)
unfolding meaning
sound_engine s h = (slots_sound (settings_in s) (header_in s).clock.0 (slots_of (slots s (capacity_in s)))).0 (sound_slots s h)
