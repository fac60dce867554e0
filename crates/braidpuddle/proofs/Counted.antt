-- How many flows a sound state has open: its capacity less its free slots. Assumes nothing.
use Prim.Native.Nat.{ℕ, ◌-◌, ◌^◌, ◌≤◌}
use mathlib.Core.Path.{◌≡◌, refl, ap}
use mathlib.Core.Bool.{Bool, true, false}
use mathlib.Core.List.{List}
use native.Mathlib.Omega.{arith}
use lib.ListN.{length}
use Rattle.memory.specs.Bytes.{part}
use Rattle.table.specs.Header.{header_of}
use Rattle.table.specs.declared.Header.{Header}
use Rattle.slots.specs.Table.{slots}
use Rattle.state.specs.State.{capacity_in, slots_of, meaning}
use Rattle.state.specs.Change.{open_and_free}
use Rattle.state.specs.Free.{free_count}
use Rattle.state.specs.Check.{Checked}
use Rattle.sweeps.specs.StateLaws.{checked_damaged}
use Rattle.packet.proofs.Performing.{meaning_many}
use Rattle.braidpuddle.specs.Calls.{CountedFlows}

module _ (s : List ℕ) (yes : Bool) (index free : List ℕ) (checked : Checked s yes index free) where
  module _ (e : yes ≡ true) where
    pub header_there : 256 ≤ length s
    header_there = omega (arith, (checked.decides.0 e).header.long)

    pub free_few : free_count free ≤ 4096
    free_few = omega (arith, (checked.ready e).unused.count, (checked.ready e).unused.most)

    module _ (h : Header) (is : h ≡ header_of (part s 0 256)) where
      pub free_within : free_count free ≤ h.capacity
      free_within = omega (arith, (checked.ready e).unused.count, ap (λ (x : Header). x.capacity) is)

      pub counted_open : (r : ℕ) → r ≡ h.capacity - free_count free → CountedFlows s r
      unfolding meaning
      counted_open r is-rest = record {
        sound = λ sound.
            omega (
              arith,
              meaning_many (slots_of (slots s (capacity_in s))),
              open_and_free s (capacity_in s) index free (checked.ready e),
              ap (λ (x : Header). x.capacity) is,
            );
        damaged = λ bad. absurd (bad (checked.decides.0 e));
      }

  pub counted_damaged : yes ≡ false → CountedFlows s (2 ^ 64 - 1)
  counted_damaged e = record { sound = λ sound. absurd (checked_damaged s yes index free checked e sound); damaged = λ bad. refl }
