-- What the small functions of the choice answer, way by way. Assumes nothing.
use Rattle.std.specs.Prelude.{None, Option, Some, is_some}
use mathlib.Core.Path.{◌≡◌, refl, sym, ap, ◌∙◌}
use mathlib.Core.Bool.{Bool, true, false, cond, ◌&&◌, false≢true}
use mathlib.Core.List.{List}
use Prim.Native.Nat.{ℕ, ◌+◌, ◌*◌, ◌≤◌, ◌<◌}
use native.Mathlib.Omega.{arith}
use lib.Dec.{ltb}
use lib.ListN.{length, get_or}
use borrow.Author.Tests.{eq-eqb, ne_eqb}
use Rattle.memory.specs.Bytes.{num, part}
use Rattle.memory.proofs.Words.{word_at}
use Rattle.slots.specs.Table.{slot}
use Rattle.table.proofs.SlotLaws.{words_at_lem}
use Rattle.words.specs.Words.{record_of, direction_at}
use Rattle.index.specs.Hash.{hash_of, hash_of_lem}
use Rattle.key.specs.KeyTheorems.{KeyInRange}
use Rattle.key.specs.Shard.{shard_of}
use Rattle.wire.specs.declared.packet.Packet.{Packet}
use Rattle.flow.specs.declared.record.Direction.TheVariants.{Forward, Reverse}
use Rattle.rules.specs.Engine.{key_bytes, both_fins}
use Rattle.state.specs.Slot.{record_in, words_in}
use Rattle.decide.specs.declared.choose.Choice.{Choice}
use Rattle.decide.specs.Search.{InState, SearchAsked, FoundStaying}
use Rattle.decide.specs.Choose.{if_closed_at, first_found, reused_at, unless_ended, taken_by, choice_at, TurnedIf}
use Rattle.decide.specs.Decide.{Stays, DecideAsked}

-- ## Both FINs of a slot

-- word k of slot i's record
pub word_in : (s : List ℕ) (i k : ℕ) → 256 + 624 * i + 624 ≤ length s → k < 37 → num (part s (256 + 624 * i + 80 + 8 * k) 8) ≡ get_or (words_in (slot s i)) k 0
unfolding words_in
word_in s i k size low = sym (word_at s (256 + 624 * i + 80) 37 k low) ∙ ap (λ (ws : List ℕ). get_or ws k 0) (words_at_lem s i size)

-- the fin counts are words 15 and 28
pub fins_told : (s : List ℕ) (i : ℕ) {a b : ℕ} → a ≡ get_or (words_in (slot s i)) 15 0 → b ≡ get_or (words_in (slot s i)) 28 0
    → (ltb 0 a && ltb 0 b) ≡ both_fins (record_in (slot s i))
unfolding record_in record_of direction_at
fins_told s i p q = λ t. ltb 0 (p t) && ltb 0 (q t)

module _ (s : List ℕ) (f : Option ℕ) (i : ℕ) (b : Bool) (e : f ≡ Some i) (test : b ≡ both_fins (record_in (slot s i))) where
  pub closed_there : b ≡ true → Some i ≡ if_closed_at s f
  closed_there y = sym (ap (if_closed_at s) e ∙ ap (λ (x : Bool). cond x (Some i) None) (sym test ∙ y))

  pub closed_not : b ≡ false → None ≡ if_closed_at s f
  closed_not y = sym (ap (if_closed_at s) e ∙ ap (λ (x : Bool). cond x (Some i) None) (sym test ∙ y))

-- ## Step 1

pub first_there : (a b : Option ℕ) (i : ℕ) → a ≡ Some i → Some i ≡ first_found a b
first_there a b i e = sym (ap (λ (x : Option ℕ). first_found x b) e)

pub syn_set : (s : List ℕ) (syn : Bool) (own turned : Option ℕ) {a b r : Option ℕ} → syn ≡ true → a ≡ if_closed_at s own → b ≡ if_closed_at s turned → r ≡ first_found a b
    → r ≡ reused_at s syn own turned
syn_set s syn own turned e p q h = h ∙ (λ t. first_found (p t) (q t)) ∙ sym (ap (λ (x : Bool). reused_at s x own turned) e)

-- ## The slot, unless it is the one that step 1 ends

module _ (f e : Option ℕ) (i : ℕ) (here : f ≡ Some i) where
  pub unless_none : e ≡ None → Some i ≡ unless_ended f e
  unless_none z = sym (λ t. unless_ended (here t) (z t))

  module _ (j : ℕ) (there : e ≡ Some j) where
    pub unless_same : i ≡ j → None ≡ unless_ended f e
    unless_same q = sym ((λ t. unless_ended (here t) (there t)) ∙ ap (λ (x : Bool). cond x None (Some i)) (eq-eqb i j q))

    pub unless_other : (i ≡ j → ⊥) → Some i ≡ unless_ended f e
    unless_other q = sym ((λ t. unless_ended (here t) (there t)) ∙ ap (λ (x : Bool). cond x None (Some i)) (ne_eqb i j q))

-- ## Step 2

module _ (ended own : Option ℕ) (two : Bool) (turned : Option ℕ) (a : Bool) (own_there : a ≡ is_some own) where
  pub own_takes : a ≡ true → ◌≡◌ {A = Choice} (record { ended = ended; slot = own; direction = Forward }) (taken_by ended own two turned)
  own_takes y = go own (sym own_there ∙ y)
    where
      go : (f : Option ℕ) → is_some f ≡ true → ◌≡◌ {A = Choice} (record { ended = ended; slot = f; direction = Forward }) (taken_by ended f two turned)
      go (Some i) q = refl
      go None q = absurd (false≢true q)

  module _ (b : Bool) (turned-there : b ≡ is_some turned) where
    pub turned_takes : a ≡ false → (two && b) ≡ true
        → ◌≡◌ {A = Choice} (record { ended = ended; slot = turned; direction = Reverse }) (taken_by ended own two turned)
    turned_takes n y = go own two turned (sym own_there ∙ n) (ap (two &&◌) (sym turned-there) ∙ y)
      where
        go : (f : Option ℕ) (t : Bool) (g : Option ℕ) → is_some f ≡ false → (t && is_some g) ≡ true
            → ◌≡◌ {A = Choice} (record { ended = ended; slot = g; direction = Reverse }) (taken_by ended f t g)
        go (Some i) t g q z = absurd (false≢true (sym q))
        go None true (Some i) q z = refl
        go None true None q z = absurd (false≢true z)
        go None false g q z = absurd (false≢true z)

    pub none_takes : a ≡ false → (two && b) ≡ false
        → ◌≡◌ {A = Choice} (record { ended = ended; slot = None; direction = Forward }) (taken_by ended own two turned)
    none_takes n y = go own two turned (sym own_there ∙ n) (ap (two &&◌) (sym turned-there) ∙ y)
      where
        go : (f : Option ℕ) (t : Bool) (g : Option ℕ) → is_some f ≡ false → (t && is_some g) ≡ false
            → ◌≡◌ {A = Choice} (record { ended = ended; slot = None; direction = Forward }) (taken_by ended f t g)
        go (Some i) t g q z = absurd (false≢true (sym q))
        go None true (Some i) q z = absurd (false≢true (sym z))
        go None true None q z = refl
        go None false g q z = refl

-- ## Both steps

pub choice_made : (s : List ℕ) (syn : Bool) (own : Option ℕ) (two : Bool) (turned : Option ℕ) {e a b : Option ℕ} {r : Choice} → e ≡ reused_at s syn own turned
    → a ≡ unless_ended own e → b ≡ unless_ended turned e → r ≡ taken_by e a two b → r ≡ choice_at s syn own two turned
unfolding choice_at
choice_made s syn own two turned {e} {a} {b} is p q h =
    h ∙ (λ t. taken_by e (p t) two (q t)) ∙ ap (λ (x : Option ℕ). taken_by x (unless_ended own x) two (unless_ended turned x)) is

-- the search under the reversed key, where it is needed
module _ (needed : Bool) (s : List ℕ) (c T L w : ℕ) (bytes : List ℕ) where
  pub turned_needed : (r : Option ℕ) → needed ≡ true → FoundStaying s c T L w bytes r → TurnedIf needed s c T L w bytes r
  turned_needed r e h = record { found = λ q. h; unasked = λ q. absurd (false≢true (sym q ∙ e)) }

  pub turned_unneeded : needed ≡ false → TurnedIf needed s c T L w bytes None
  turned_unneeded e = record { found = λ q. absurd (false≢true (sym e ∙ q)); unasked = λ q. refl }

-- what the searches of the choice ask
module _ (s : List ℕ) (c : ℕ) (index : List ℕ) (p : Packet) (bytes : List ℕ) (ask : DecideAsked s c index p bytes) (h : ℕ) (shard : h ≡ shard_of p.key 524288) where
  hash_told : h ≡ hash_of (key_bytes p.key)
  hash_told = shard ∙ sym (hash_of_lem p.key ask.in_range.key)

  pub own_asked : SearchAsked s c index bytes h
  own_asked = record { size = ask.size; indexed = ask.indexed; flows = ask.flows; hash_is = hash_told ∙ ap hash_of (sym ask.key) }

  pub key_asked : SearchAsked s c index (key_bytes p.key) h × KeyInRange p.key
  key_asked = (record { size = ask.size; indexed = ask.indexed; flows = ask.flows; hash_is = hash_told }, ask.in_range.key)

-- a slot that stays lies in the state
pub sits_in : (s : List ℕ) (c T L w : ℕ) (r : Option ℕ) → 256 + 640 * c ≤ length s → ((i : ℕ) → r ≡ Some i → Stays s c T L w i) → InState s r
sits_in s c T L w r size h i e = omega (arith, (h i e).low)
