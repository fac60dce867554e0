-- A batch fed in two pieces. That it is the batch fed in one stands in proofs/BatchLaws.antt. Assumes nothing.
use Rattle.std.specs.Prelude.{◌≡◌, ℕ, ◌+◌, ◌-◌, take}
use mathlib.Core.List.{List, ◌++◌}
use Rattle.rules.specs.Rules.{Terms, Settings, Refusal}
use Rattle.rules.specs.Rules as R

module _ (W : Terms) where
  -- ## A batch in two pieces

  -- what two calls tell, as if they were one
  abbrev pub together : R.Told W → R.Told W → R.Told W
  together t u =
      record {
        refusal = u.refusal;
        taken = t.taken + u.taken;
        opens = t.opens + u.opens;
        finished = t.finished ++ u.finished;
        engine = u.engine;
      }

  -- the second of two calls goes on where the first stopped, with the room that it left
  abbrev pub GoesOn : Settings → ℕ → List W.Packet → List W.Packet → Refusal → R.Engine W → R.Told W → Type 0
  GoesOn s room ps qs ends e t =
      R.feed_all W s room (take t.taken ps ++ qs) ends e ≡ together t (R.feed_all W s (room - R.sizes W t.finished) qs ends t.engine)
