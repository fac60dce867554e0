-- What the choice of steps 1 and 2 says: the flow that ends, the flow that takes the packet, and the flows that are left. Assumes
-- nothing.
use Rattle.std.specs.Prelude.{None, Option, Some}
use mathlib.Core.Path.{◌≡◌, refl, sym, ap, ◌∙◌}
use mathlib.Core.Bool.{Bool, true, false, false≢true}
use mathlib.Core.List.{List, [], ◌∷◌}
use Prim.Native.Nat.{ℕ, zero, suc, ◌+◌}
use native.Mathlib.Omega.{arith}
use lib.ListN.{length, get_or, set}
use Rattle.slots.specs.Table.{slot, slots}
use Rattle.flow.specs.declared.record.Direction.{Direction}
use Rattle.flow.specs.declared.record.Direction.TheVariants.{Forward, Reverse}
use Rattle.key.specs.Key.{reversed_key}
use Rattle.key.specs.KeyTheorems.{KeyInRange, equal_bytes}
use Rattle.wire.specs.declared.packet.Packet.{Packet}
use Rattle.rules.specs.Totals.{total, total_sort}
use Rattle.rules.specs.Rules.{Settings, Flow, Taker, old, new, by_key, under, chosen, taker, taking, beside, without}
use Rattle.rules.specs.Engine.{engine, key_bytes, is_association}
use Rattle.rules.proofs.EngineTermsLaws.{reversed_in_range}
use Rattle.rules.specs.Slots.{Slots, occupied, meaning}
use Rattle.state.specs.Slot.{key_in, flow_in}
use Rattle.state.specs.State.{SoundFlows}
use Rattle.hand.specs.Acting.{at, emptied_at}
use Rattle.decide.specs.Decide.{staying_slots, ended_flow, left_flows, taker_on, taker_of, Chosen}
use Rattle.decide.specs.Settle.{name_by, freed_by}
use Rattle.decide.proofs.Finding.{key_of_found}
use Rattle.decide.proofs.Staying.{sits_flow}
use Rattle.decide.proofs.Choosing.{emptied_meaning, left_flow}

-- ## How many flows there are

as_many : (l : List (Flow engine)) → length l ≡ total (λ _. 1) l
as_many [] = refl
as_many (f ∷ l) = omega (arith, as_many l)

-- a table means as many flows as it holds
length_meaning : (l : Slots engine) → length (meaning engine l) ≡ length (occupied engine l)
length_meaning l =
    as_many (meaning engine l) ∙ total_sort (λ _. 1) (by_key engine) (occupied engine l) ∙ sym (as_many (occupied engine l))

-- an emptied slot is one flow less
one_less : (l : Slots engine) (i : ℕ) (f : Flow engine) → get_or l i None ≡ Some f → length (occupied engine (set l i None)) + 1 ≡ length (occupied engine l)
one_less [] i f e = absurd (let z : ◌≡◌ {A = ℕ} 0 1 = cc in omega arith)
one_less (None ∷ l) zero f e = absurd (let z : ◌≡◌ {A = ℕ} 0 1 = cc in omega arith)
one_less (Some g ∷ l) zero f e = omega arith
one_less (None ∷ l) (suc i) f e = one_less l i f e
one_less (Some g ∷ l) (suc i) f e = omega (arith, one_less l i f e)

-- ## Whose name the taker has

-- a flow that takes a packet forward has its key, one that takes it in reverse has the reversed key
module _ (p : Packet) (fs : List (Flow engine)) (d : Direction) (f : Flow engine) (named : KeyInRange f.name) (ok : KeyInRange p.key) where
  name_told : taker engine p fs ≡ old d f → name_by p.key d ≡ f.name
  name_told e =
      go (under engine (key_bytes p.key) fs) refl (is_association p.key) (under engine (key_bytes (reversed_key p.key)) fs) refl e
    where
      go : (o : Option (Flow engine)) → under engine (key_bytes p.key) fs ≡ o → (a : Bool) (g : Option (Flow engine))
          → under engine (key_bytes (reversed_key p.key)) fs ≡ g → chosen engine o a g ≡ old d f → name_by p.key d ≡ f.name
      go (Some x) q a g z h =
          let same : x ≡ f = cc in
          let forward : Forward ≡ d = cc in
          ap (name_by p.key) (sym forward)
          ∙ equal_bytes p.key f.name ok named (key_of_found engine (key_bytes p.key) fs f (q ∙ ap Some same))
      go None q true g z h = absurd (let n : ◌≡◌ {A = ℕ} 0 1 = cc in omega arith)
      go None q false (Some x) z h =
          let same : x ≡ f = cc in
          let reverse : Reverse ≡ d = cc in
          ap (name_by p.key) (sym reverse)
          ∙ equal_bytes (reversed_key p.key) f.name (reversed_in_range p.key ok) named
          (key_of_found engine (key_bytes (reversed_key p.key)) fs f (z ∙ ap Some same))
      go None q false None z h = absurd (let n : ◌≡◌ {A = ℕ} 0 1 = cc in omega arith)

-- ## Where a flow opens

-- none is under its key
opens_own : (p : Packet) (fs : List (Flow engine)) → taker engine p fs ≡ new → under engine (key_bytes p.key) fs ≡ None
opens_own p fs e = go (under engine (key_bytes p.key) fs) (is_association p.key) (under engine (key_bytes (reversed_key p.key)) fs) e
  where
    go : (o : Option (Flow engine)) (a : Bool) (g : Option (Flow engine)) → chosen engine o a g ≡ new → o ≡ None
    go (Some x) a g h = absurd (let n : ◌≡◌ {A = ℕ} 0 1 = cc in omega arith)
    go None a g h = refl

-- nor under its reversed key, associations apart
opens_turned : (p : Packet) (fs : List (Flow engine)) → taker engine p fs ≡ new → is_association p.key ≡ false
    → under engine (key_bytes (reversed_key p.key)) fs ≡ None
opens_turned p fs e two = go (under engine (key_bytes p.key) fs) (is_association p.key) (under engine (key_bytes (reversed_key p.key)) fs) two e
  where
    go : (o : Option (Flow engine)) (a : Bool) (g : Option (Flow engine)) → a ≡ false → chosen engine o a g ≡ new → g ≡ None
    go (Some x) a g z h = absurd (let n : ◌≡◌ {A = ℕ} 0 1 = cc in omega arith)
    go None true g z h = absurd (false≢true (sym z))
    go None false (Some x) z h = absurd (let n : ◌≡◌ {A = ℕ} 0 1 = cc in omega arith)
    go None false None z h = refl

-- ## The choice

module _ {s : List ℕ} {c T L w : ℕ} {p : Packet} {ended found : Option ℕ} {d : Direction} (h : Chosen s c T L w p ended found d) where
  -- the slots as the sweep will leave them
  abbrev swept : Slots engine
  swept = staying_slots T L w (slots s c)

  -- the flow that step 1 ends
  pub ended_flow_lem : (i : ℕ) → ended ≡ Some i → ended_flow p swept ≡ Some (flow_in (slot s i))
  ended_flow_lem i e = sym h.ended_is ∙ ap (at swept) e ∙ sits_flow s c T L w i (h.ended_sits i e)

  pub ended_none : ended ≡ None → ended_flow p swept ≡ None
  ended_none e = sym h.ended_is ∙ ap (at swept) e

  -- the flow that takes the packet sits in its slot when step 1 is done
  pub taker_sits : (i : ℕ) → found ≡ Some i → get_or (emptied_at ended swept) i None ≡ Some (flow_in (slot s i))
  taker_sits i e = left_flow s c T L w ended i (h.slot_sits i e) (h.apart i e)

  pub takes_old : (i : ℕ) → found ≡ Some i → taker_on p swept ≡ old d (flow_in (slot s i))
  takes_old i e =
      sym h.taker_is ∙ ap (λ (x : Option ℕ). taker_of (at (emptied_at ended swept) x) d) e ∙ ap (λ (o : Option (Flow engine)). taker_of o d) (taker_sits i e)

  -- .. where there is none, a flow opens
  pub takes_new : found ≡ None → taker_on p swept ≡ new
  takes_new e = sym h.taker_is ∙ ap (λ (x : Option ℕ). taker_of (at (emptied_at ended swept) x) d) e

  -- .. under a key that no flow has that step 1 leaves
  pub new_own : found ≡ None → under engine (key_bytes p.key) (left_flows p swept) ≡ None
  new_own e = opens_own p (left_flows p swept) (takes_new e)

  pub new_turned : found ≡ None → is_association p.key ≡ false → under engine (key_bytes (reversed_key p.key)) (left_flows p swept) ≡ None
  new_turned e = opens_turned p (left_flows p swept) (takes_new e)

  -- the name that it keeps
  pub taken_name : (S : Settings) (i : ℕ) → found ≡ Some i → (taking engine S p (taker_on p swept)).name ≡ key_in (slot s i)
  unfolding flow_in
  taken_name S i e = ap (λ (t : Taker engine). (taking engine S p t).name) (takes_old i e)

  -- the flows beside the one that takes the packet
  pub beside_old : (i : ℕ) → found ≡ Some i
      → beside engine (taker_on p swept) (left_flows p swept) ≡ without engine (by_key engine (flow_in (slot s i))) (left_flows p swept)
  beside_old i e = ap (λ (t : Taker engine). beside engine t (left_flows p swept)) (takes_old i e)

  module _ (flows : SoundFlows s c) where
    -- the slots when step 1 is done mean the flows that it leaves
    pub left_meaning : meaning engine (emptied_at ended swept) ≡ left_flows p swept
    left_meaning = emptied_meaning s c T L w ended (ended_flow p swept) flows h.ended_sits h.ended_is

    -- .. which are one less where it ended one
    pub left_length : length (left_flows p swept) + freed_by ended ≡ length (occupied engine swept)
    left_length = omega (arith, ap length left_meaning, length_meaning (emptied_at ended swept), go ended refl)
      where
        go : (e : Option ℕ) → ended ≡ e → length (occupied engine (emptied_at ended swept)) + freed_by ended ≡ length (occupied engine swept)
        go (Some i) q =
            ap (λ (x : Option ℕ). length (occupied engine (emptied_at x swept)) + freed_by x) q
            ∙ one_less swept i (flow_in (slot s i)) (sits_flow s c T L w i (h.ended_sits i q))
        go None q = ap (λ (x : Option ℕ). length (occupied engine (emptied_at x swept)) + freed_by x) q ∙ omega arith

    -- the name of the flow that takes the packet
    pub name_old : (i : ℕ) → found ≡ Some i → KeyInRange p.key → name_by p.key d ≡ key_in (slot s i)
    unfolding flow_in
    name_old i e ok =
        let at_slot = h.slot_sits i e in
        name_told p (left_flows p swept) d (flow_in (slot s i)) (flows.slots i at_slot.low at_slot.used).in_range ok (takes_old i e)
