-- A state inside a call, whose header is sound, is a sound state; and a sound state is one inside a call. Assumes nothing.
use Rattle.std.specs.Prelude.{ℕ, ◌≡◌, List, length}
use Rattle.std.proofs.Common.{sym, subst, arith}
use Rattle.plan.specs.PlanLaws.{names_queued, queued_names}
use Rattle.state.specs.State.{header_in, capacity_in, SoundHeader, Sound}
use Rattle.state.specs.Ready.{Ready}
use Rattle.hand.specs.Acting.{Busy}

module _ (c T : ℕ) (s index free : List ℕ) (is-capacity : c ≡ capacity_in s) (is-timeout : T ≡ (header_in s).timeout.0) where
  -- where the header is sound too, the state is sound
  pub untouched_sound : SoundHeader (header_in s) (length s) → Busy c T s index free → Sound s
  untouched_sound header busy =
      let b : Busy (capacity_in s) (header_in s).timeout.0 s index free =
      subst (λ (n : ℕ). Busy n (header_in s).timeout.0 s index free) is-capacity
      (subst (λ (t : ℕ). Busy c t s index free) is-timeout busy) in
      record {
        header = header;
        flows = b.ready.flows;
        tree = b.names.sound;
        queue = names_queued (capacity_in s) (header_in s).timeout.0 s b.names;
      }

  -- a sound state with its index and its list of free slots is in order
  pub sound_busy : Sound s → Ready s c index free → Busy c T s index free
  sound_busy sound ready =
      subst (λ (n : ℕ). Busy n T s index free) (sym is-capacity)
      (subst (λ (t : ℕ). Busy (capacity_in s) t s index free) (sym is-timeout)
      (record {
        size = sound.header.long;
        some = omega (arith, sound.header.some);
        most = sound.header.most;
        ready = subst (λ (n : ℕ). Ready s n index free) is-capacity ready;
        names = queued_names (capacity_in s) (header_in s).timeout.0 s sound.tree sound.queue;
      }))
