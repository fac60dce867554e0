-- What is asked of terms so that calls keep a state sound: no key twice, no flow under another's reversed key (associations apart).
-- That they do stands in proofs/SoundLaws.antt. Assumes nothing.
use Rattle.std.specs.Prelude.{◌≡◌, Bool, false, ℕ, ◌≤◌, length}
use mathlib.Core.List.{List, [], ◌∷◌}
use Rattle.rules.specs.Order.{equal}
use Rattle.rules.specs.Totals.{All}
use Rattle.flow.specs.declared.time.TimeResolution.{TimeResolution}
use Rattle.flow.specs.declared.record.Direction.{Direction}
use Rattle.flow.specs.declared.record.Direction.TheVariants.{Forward, Reverse}
use Rattle.rules.specs.Rules.{Room, Terms, Settings}
use Rattle.rules.specs.Rules as R
use Rattle.rules.specs.Demand.{Call, feed, sweep, drain, Run}

-- what the rules need of keys in range: reversal turned round, and a key and its reverse are both associations or neither
pub record KeyLaws (W : Terms) (Ranged : W.Key → Type 0) : Type 0 where
  pub turn : (a b : W.Key) → Ranged a → Ranged b → W.bytes (W.reversed a) ≡ W.bytes b → W.bytes (W.reversed b) ≡ W.bytes a
  pub kind : (a b : W.Key) → Ranged a → Ranged b → W.bytes (W.reversed a) ≡ W.bytes b → W.association a ≡ W.association b

-- a packet is taken as reverse only by a flow that is no association
abbrev pub TwoWay : Direction → Bool → Type 0
TwoWay Forward association = Unit {0}
TwoWay Reverse association = association ≡ false

-- what a flow has that begins with a packet in range, it keeps as it counts one that does not spend it
pub record HeldLaws (W : Terms) (Ranged : W.Key → Type 0) (InRange : W.Packet → Type 0) (Good : W.Key → W.Held → Type 0) : Type 0 where
  pub ranged : (p : W.Packet) → InRange p → Ranged (W.key p)
  pub named : (k : W.Key) (h : W.Held) → Good k h → Ranged k
  pub begins : (r : TimeResolution) (p : W.Packet) → InRange p → Good (W.key p) (W.begun r p)
  pub counts : (d : Direction) (p : W.Packet) (k : W.Key) (h : W.Held) → InRange p → Good k h → TwoWay d (W.association k) → W.spent p h ≡ false
      → Good k (W.counted d p h)

-- every packet of the calls is in range
abbrev pub FedInRange : {P : Type 0} → (P → Type 0) → List (Call P) → Type 0
FedInRange InRange [] = Unit {0}
FedInRange InRange (feed room ps ends ∷ cs) = All InRange ps × FedInRange InRange cs
FedInRange InRange (sweep room x ∷ cs) = FedInRange InRange cs
FedInRange InRange (drain room ∷ cs) = FedInRange InRange cs

-- not refused for want of room
abbrev pub NotRoom : (W : Terms) → R.Answer W → Type 0
NotRoom W (R.refused r) = r ≡ Room → ⊥
NotRoom W (R.done x) = Unit {0}

-- ## Pairs of a list

module _ {A : Type 0} (C : A → A → Type 0) where
  -- the relation holds of each element and every one behind it
  abbrev pub Pairs : List A → Type 0
  Pairs [] = Unit {0}
  Pairs (x ∷ l) = All (C x) l × Pairs l

module _ (W : Terms) where
  abbrev pub turned : R.Flow W → List ℕ
  turned f = W.bytes (W.reversed f.name)

  -- f is not under g's reversed key, unless g is an association
  abbrev pub Unturned : R.Flow W → R.Flow W → Type 0
  Unturned f g = W.association g.name ≡ false → equal (turned g) (R.by_key W f) ≡ false

  -- two flows that may stand side by side
  abbrev pub Clear : R.Flow W → R.Flow W → Type 0
  Clear f g = (equal (R.by_key W f) (R.by_key W g) ≡ false) × Unturned f g × Unturned g f

  -- ## Fine flows: Good says what is asked of a flow's key and of what it holds

  module _ (Good : W.Key → W.Held → Type 0) where
    -- of an open flow
    abbrev pub Fine : R.Flow W → Type 0
    Fine f = Good f.name f.held

    -- of a record that is handed out
    abbrev pub FineRecord : R.Finished W → Type 0
    FineRecord f = Good f.name f.held

    module _ (s : Settings) where
      -- what sound means of the open flows: clear of each other, each fine, and within the capacity
      abbrev pub Flows : List (R.Flow W) → Type 0
      Flows l = Pairs Clear l × All Fine l × (length l ≤ s.capacity)

      -- an unrefused packet leaves the flows sound, and hands out fine records
      abbrev pub FineAnswer : R.Answer W → Type 0
      FineAnswer (R.refused r) = Unit {0}
      FineAnswer (R.done x) = Flows x.engine.flows × All FineRecord x.finished

      -- a call's answer
      abbrev pub FineTold : R.Told W → Type 0
      FineTold x = Flows x.engine.flows × All FineRecord x.finished

      -- what a run of calls has come to
      abbrev pub FineRun : Run W → Type 0
      FineRun r = Flows r.engine.flows × All FineRecord r.finished
