-- The engine that a table of slots means, at the engine's own types: the clock, and the flows of the slots in order of key bytes
-- (Slots.antt). That it is sound exactly if the slots are stands in proofs/EngineSlotsLaws.antt. Assumes nothing.
use Rattle.std.specs.Prelude.{◌≡◌, ℕ, ◌≤◌, length}
use Rattle.rules.specs.Totals.{All}
use Rattle.rules.specs.Rules.{Settings, Engine}
use Rattle.rules.specs.Engine.{engine}
use Rattle.rules.specs.Slots.{Slots, occupied, meaning}
use Rattle.rules.specs.Sound.{Pairs, Clear}
use Rattle.rules.specs.EngineLaws.{SoundFlow}

-- ## The engine of a clock and a table of slots

abbrev pub engine_of : ℕ → Slots engine → Engine engine
engine_of w slots = record { clock = w; flows = meaning engine slots }

-- "Sound state", of the slots as they sit
pub record SoundSlots (s : Settings) (w : ℕ) (slots : Slots engine) : Type 0 where
  pub clear : Pairs (Clear engine) (occupied engine slots)
  pub records : All (λ f. SoundFlow f.name f.held) (occupied engine slots)
  pub few : length (occupied engine slots) ≤ s.capacity
  pub still : s.T ≡ 0 → w ≡ 0
