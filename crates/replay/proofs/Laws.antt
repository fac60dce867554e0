-- The window after a read behind what is not used yet.
use Prim.Native.Nat.{ℕ, ◌-◌, ◌≤◌, ◌<◌}
use mathlib.Core.Path.{◌≡◌, refl, ◌∙◌}
use mathlib.Core.List.{List}
use native.Mathlib.Omega.{arith}
use lib.ListN.{length}
use borrow.Rule.Slice.PartMut.{put_mid, take_put}
use Rattle.replay.specs.Input.{Inside, AtFront, Refilled, unused_of}
use Rattle.replay.specs.declared.input.Input.{Input}
use Rattle.replay.specs.declared.input.Source.{Source}

module _ (before : Input) (window moved came : List ℕ) (kept : ℕ) where
  -- what was lent to the read came back as `came`
  abbrev after : List ℕ
  after = put_mid kept (length moved - kept) moved came

  pub refilled : (end : ℕ) (source : Source) → Inside before window → kept ≡ before.end - before.at → AtFront window before.at kept moved → length after ≡ length moved
      → kept ≤ end → end ≤ length moved → (source ≡ Source.Going → kept < end) → Refilled before window (record { at = 0; end = end; source = source }) after
  unfolding unused_of
  refilled end source i k m size behind fits more =
      record {
        kept = rw (← k) (take_put kept (length moved - kept) moved came (omega arith) ∙ m.front);
        front = refl;
        behind = rw (← k) behind;
        within = rw size fits;
        size = size ∙ m.size;
        more = λ g. rw (← k) (more g);
      }
