-- A sound state of the engine, and what is said of a call that keeps it so. That every call does stands in
-- proofs/EngineSoundLaws.antt. Assumes nothing.
use Rattle.std.specs.Prelude.{◌≡◌, true, ◌≤◌, length}
use Rattle.flow.specs.Counting.{closed}
use Rattle.flow.specs.Sound.{sound_record}
use Rattle.wire.specs.RecordTheorems.{FlowInRange}
use Rattle.rules.specs.Totals.{All}
use Rattle.rules.specs.Rules.{Settings, Finished, Engine, Told}
use Rattle.rules.specs.Engine.{engine, finished_flow}
use Rattle.rules.specs.Sound.{Pairs, Clear}
use Rattle.rules.specs.EngineLaws.{SoundFlow}

-- ## Sound

-- "Sound state", of the engine that a state's bytes mean
pub record SoundEngine (s : Settings) (e : Engine engine) : Type 0 where
  -- "no key twice; no flow under another's reversed key, associations apart"
  pub clear : Pairs (Clear engine) e.flows
  -- "every flow's record sound, end reason aside"
  pub records : All (λ f. SoundFlow f.name f.held) e.flows
  -- at most capacity flows are open
  pub few : length e.flows ≤ s.capacity
  -- "W 0 if timeout is 0"
  pub still : s.T ≡ 0 → e.clock ≡ 0

-- a record that is handed out: "A record also meets 'sound record'", and has a form
abbrev pub SoundlyFinished : Finished engine → Type 0
SoundlyFinished f = (sound_record (closed f.held f.reason) ≡ true) × FlowInRange (finished_flow f.name f.reason f.held)

-- after a call: a sound engine, and sound records
pub record SoundlyTold (s : Settings) (t : Told engine) : Type 0 where
  pub engine_sound : SoundEngine s t.engine
  pub finished_sound : All SoundlyFinished t.finished
