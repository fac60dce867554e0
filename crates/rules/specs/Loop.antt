-- A batch as a loop sees it: what has been done so far, ahead of what the rules say of the rest. Assumes nothing.
use Rattle.std.specs.Prelude.{List, ◌++◌, ℕ, ◌+◌}
use Rattle.rules.specs.Rules.{Terms}
use Rattle.rules.specs.Rules as R

module _ (W : Terms) where
  -- n packets taken, o flows opened and the records `out` written, ahead of what `t` tells
  abbrev pub ahead : ℕ → ℕ → List (R.Finished W) → R.Told W → R.Told W
  ahead n o out t =
      record { refusal = t.refusal; taken = n + t.taken; opens = o + t.opens; finished = out ++ t.finished; engine = t.engine }
