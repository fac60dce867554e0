-- The loop of `sizes_of`: the size of one record more. Assumes nothing.
use Prim.Native.Nat.{ℕ, ◌+◌, ◌*◌, ◌≤◌, ◌<◌}
use mathlib.Core.Path.{◌≡◌, sym, ap, ◌∙◌, subst}
use mathlib.Core.List.{List, map}
use native.Mathlib.Omega.{arith}
use lib.ListN.{length, get_or, take, drop}
use Rattle.forms.specs.Length.{Sized}
use Rattle.slots.specs.Table.{slot}
use Rattle.table.specs.View.{view}
use Rattle.table.proofs.Laws.{slot_view}
use Rattle.flow.specs.declared.time.EndReason.{EndReason}
use Rattle.wire.specs.declared.record.Flow.{Flow}
use Rattle.wire.specs.RecordForm.{record_bytes}
use Rattle.rules.specs.Rules.{finish_or, sizes}
use Rattle.rules.specs.Engine.{engine}
use Rattle.state.specs.Slot.{flow_in, SoundSlot}
use Rattle.state.specs.Names.{flows_of}
use Rattle.hand.specs.Slot.{HasFlow, flow_as}
use Rattle.hand.specs.Act.{SoundOpen, Listed}
use Rattle.hand.proofs.Listing.{next_listed, none_listed, listed_at}

-- the bytes that the records of these slots need
abbrev sizes_of : EndReason → List (List ℕ) → List ℕ → ℕ
sizes_of other table listed = sizes engine (map (finish_or engine other) (flows_of table listed))

-- the sum is that of the slots before place k
pub record Summing (c : ℕ) (s l : List ℕ) (n : ℕ) (other : EndReason) (sum k : ℕ) : Type 0 where
  pub small : sum ≤ 473 * k
  pub left : sum + sizes_of other (view c s).table (drop k (take n l)) ≡ sizes_of other (view c s).table (take n l)

module _ (c : ℕ) (s l : List ℕ) (n : ℕ) (other : EndReason) (asked : Listed c s l n) where
  pub sum_begins : Summing c s l n other 0 0
  sum_begins = record { small = omega arith; left = omega arith }

  module _ (sum k : ℕ) (p : Summing c s l n other sum k) where
    module _ (more : k < length (take n l)) where
      here : SoundOpen c (view c s).table (get_or (take n l) k 0)
      here = listed_at (SoundOpen c (view c s).table) (take n l) k asked.slots more

      pub sum_flow : HasFlow s (get_or (take n l) k 0)
      sum_flow = record {
        size = omega (arith, here.low, asked.size);
        sound = subst SoundSlot (slot_view s c (get_or (take n l) k 0) here.low) here.sound;
      }

      one_more : (f : Flow) → f ≡ flow_as (finish_or engine other (flow_in (slot s (get_or (take n l) k 0))))
          → sizes_of other (view c s).table (drop k (take n l)) ≡ length (record_bytes f) + sizes_of other (view c s).table (drop (k + 1) (take n l))
      one_more f e =
          let rest = sizes_of other (view c s).table (drop (k + 1) (take n l)) in
          ap (sizes_of other (view c s).table) (next_listed (take n l) k more)
          ∙ ap (λ (b : List ℕ). length (record_bytes (flow_as (finish_or engine other (flow_in b)))) + rest) (slot_view s c (get_or (take n l) k 0) here.low)
          ∙ ap (λ (g : Flow). length (record_bytes g) + rest) (sym e)

      pub sum_goes : (f : Flow) (r : ℕ) → f ≡ flow_as (finish_or engine other (flow_in (slot s (get_or (take n l) k 0)))) → Sized (record_bytes f) 473 r
          → Summing c s l n other (sum + r) (k + 1)
      sum_goes f r e z = record {
        small = omega (arith, p.small, z.fits);
        left = omega (arith, p.left, one_more f e, z.length_is);
      }

    pub sum_ends : length (take n l) ≤ k → sum ≡ sizes_of other (view c s).table (take n l)
    sum_ends h = omega (arith, p.left, ap (sizes_of other (view c s).table) (none_listed (take n l) k h))
