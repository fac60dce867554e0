-- What a state's sound flows say of its table: each used slot's key bytes and end are its flow's, and no two are alike. Assumes nothing.
use mathlib.Core.Path.{◌≡◌, refl, sym, ap, ◌∙◌, subst}
use mathlib.Core.Bool.{Bool, true, false, and-false}
use mathlib.Core.List.{List, []}
use Prim.Native.Nat.{ℕ, ◌<◌}
use native.Mathlib.Omega.{arith}
use lib.Dec.{eqb}
use lib.ListN.{length}
use Rattle.slots.specs.Table.{slot, key_of, is_used, NoKeyTwice}
use Rattle.slots.proofs.Laws.{length_slots}
use Rattle.words.specs.Kept as Kept
use Rattle.table.specs.View.{view, slot_of}
use Rattle.table.specs.Due.{end_of}
use Rattle.table.proofs.Laws.{slot_view}
use Rattle.table.proofs.SlotLaws.{end_word}
use Rattle.state.specs.Slot.{words_in, record_in, flow_in, SoundSlot}
use Rattle.state.specs.State.{SoundFlows}
use Rattle.rules.specs.Order.{equal}
use Rattle.rules.proofs.AccountLaws.{equal_true}
use Rattle.rules.specs.Rules.{Flow, by_key, by_end}
use Rattle.rules.specs.Engine.{engine}
use Rattle.plan.proofs.Listing.{Apart}

-- a flow's end is the slot's
pub end_told : (b : List ℕ) → engine.latest (flow_in b).held ≡ end_of b
unfolding flow_in record_in words_in
end_told b = Kept.end_word (words_in b) ∙ sym (end_word b)

key_told : (b : List ℕ) → SoundSlot b → by_key engine (flow_in b) ≡ key_of b
unfolding flow_in
key_told b h = h.key

pub length_table : (s : List ℕ) (c : ℕ) → length (view c s).table ≡ c
length_table s c = length_slots s c 0

unequal : (a b : List ℕ) → (a ≡ b → ⊥) → equal a b ≡ false
unequal a b n = go (equal a b) refl
  where
    go : (t : Bool) → equal a b ≡ t → t ≡ false
    go true e = absurd (n (equal_true a b e))
    go false e = refl

unlike : (f g : Flow engine) → equal (by_key engine f) (by_key engine g) ≡ false → equal (by_end engine f) (by_end engine g) ≡ false
unlike f g e = rw e (and-false (eqb (engine.latest f.held) (engine.latest g.held)))

module _ (s : List ℕ) (c : ℕ) (h : SoundFlows s c) where
  -- a used slot's key bytes are its flow's
  pub own_key : (i : ℕ) → i < c → is_used (slot_of (view c s).table i) ≡ true
      → by_key engine (flow_in (slot_of (view c s).table i)) ≡ key_of (slot_of (view c s).table i)
  own_key i low used =
      let e = slot_view s c i low in
      key_told (slot_of (view c s).table i) (subst SoundSlot (sym e) (h.slots i low (ap is_used (sym e) ∙ used)))

  once : (i j : ℕ) → i < c → j < c → is_used (slot s i) ≡ true → is_used (slot s j) ≡ true → key_of (slot s i) ≡ key_of (slot s j) → i ≡ j
  unfolding NoKeyTwice
  once = h.once

  pub keys_apart : Apart [] engine is_used flow_in (by_key engine) (view c s).table
  keys_apart i j n li lj ui uj =
      let hi : i < c = omega (arith, length_table s c) in
      let hj : j < c = omega (arith, length_table s c) in
      let ei = slot_view s c i hi in
      let ej = slot_view s c j hj in
      unequal _ _ λ e.
      n (once i j hi hj (ap is_used (sym ei) ∙ ui) (ap is_used (sym ej) ∙ uj)
      (ap key_of (sym ei) ∙ sym (own_key i hi ui) ∙ e ∙ own_key j hj uj ∙ ap key_of ej))

  pub ends_apart : Apart [] engine is_used flow_in (by_end engine) (view c s).table
  ends_apart i j n li lj ui uj = unlike (flow_in (slot_of (view c s).table i)) (flow_in (slot_of (view c s).table j)) (keys_apart i j n li lj ui uj)
