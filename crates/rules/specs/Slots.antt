-- From the slots of a table to the engine's flows. What a table of slots means is its flows in order of key bytes: where each flow
-- sits does not matter. The laws of what the code does to a slot stand in proofs/SlotsLaws.antt. Assumes nothing.
use Rattle.std.specs.Prelude.{Bool, cond, ℕ, None, Option, Some}
use mathlib.Core.List.{List, [], ◌∷◌}
use Rattle.rules.specs.Order.{sort}
use Rattle.flow.specs.declared.time.EndReason.{EndReason}
use Rattle.rules.specs.Rules.{Terms}
use Rattle.rules.specs.Rules as R

module _ (W : Terms) where
  abbrev pub Slots : Type 0
  Slots = List (Option (R.Flow W))

  abbrev pub occupied : Slots → List (R.Flow W)
  occupied [] = []
  occupied (None ∷ l) = occupied l
  occupied (Some f ∷ l) = f ∷ occupied l

  -- what a table means
  abbrev pub meaning : Slots → List (R.Flow W)
  meaning l = sort (R.by_key W) (occupied l)

  -- ## A sweep over the slots

  abbrev pub keep : (R.Flow W → Bool) → Option (R.Flow W) → Option (R.Flow W)
  keep test None = None
  keep test (Some f) = cond (test f) (Some f) None

  -- ## The room that a sweep needs, summed over the slots in any order

  abbrev pub size_as : EndReason → R.Flow W → ℕ
  size_as other f = W.size f.name (R.reason_or W other f) f.held
