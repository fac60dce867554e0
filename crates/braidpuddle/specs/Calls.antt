-- What the calls promise to C and Rust: the engine's own promises, its answers as numbers. Assumes nothing.
use Rattle.std.specs.Prelude.{ℕ, ◌+◌, ◌-◌, ◌*◌, ◌^◌, ◌≡◌, ◌||◌, cond, List, [], ◌∷◌, eqb, ltb, length, Result}
use Rattle.wire.specs.RecordForm.{resolution_from}
use Rattle.state.specs.State.{Sound, meaning}
use Rattle.state.specs.Opening.{Opened, opening_number}
use Rattle.forms.specs.Refusals.{stop_number}
use Rattle.sweeps.specs.Promise.{Swept, Drained, number_in, records_in, bytes_in}
use Rattle.sweeps.specs.declared.sweep.HandedOut.{HandedOut}
use Rattle.engine.specs.Feed.{Fed}
use Rattle.engine.specs.declared.FeedAnswer.{FeedAnswer}
use Rattle.forms.specs.declared.refusal.Refusal.{Refusal}

-- "State memory is 256 + 640 × capacity bytes"; 0 where opening refuses the capacity
abbrev pub state_bytes : ℕ → ℕ
state_bytes c = cond (eqb c 0 || ltb 4096 c) 0 (256 + 640 * c)

-- "Order: 1, 2 at opening"
pub record OpenedBy (before : List ℕ) (capacity timeout resolution r : ℕ) (after : List ℕ) : Type 0 where
  pub opening : Result Unit Refusal
  pub promise : Opened before capacity (record { 0 = timeout }) (resolution_from resolution) opening after
  pub number : r ≡ opening_number opening

-- "Feeding answers: refusal, packets taken, batch bytes used, flows opened, records written"; behind them the output bytes filled
pub record FedBy (before batch room : List ℕ) (r : ℕ) (answer after out : List ℕ) : Type 0 where
  pub fed : FeedAnswer
  pub promise : Fed before batch room fed after out
  pub number : r ≡ stop_number fed.refusal
  pub numbers : answer ≡ stop_number fed.refusal ∷ fed.packets ∷ fed.used ∷ fed.opened ∷ fed.records ∷ fed.bytes ∷ []

-- a sweep's or a drain's answer in the same places
abbrev pub numbers_of : Result HandedOut Refusal → List ℕ
numbers_of handed = number_in handed ∷ 0 ∷ 0 ∷ 0 ∷ records_in handed ∷ bytes_in handed ∷ []

-- "Sweep and drain answer refusal and records written", in the same places
pub record SweptBy (time : ℕ) (before room : List ℕ) (r : ℕ) (answer after out : List ℕ) : Type 0 where
  pub refusal : ℕ
  pub records : ℕ
  pub bytes : ℕ
  pub promise : Swept time before room refusal records bytes after out
  pub number : r ≡ refusal
  pub numbers : answer ≡ refusal ∷ 0 ∷ 0 ∷ 0 ∷ records ∷ bytes ∷ []

pub record DrainedBy (before room : List ℕ) (r : ℕ) (answer after out : List ℕ) : Type 0 where
  pub refusal : ℕ
  pub records : ℕ
  pub bytes : ℕ
  pub promise : Drained before room refusal records bytes after out
  pub number : r ≡ refusal
  pub numbers : answer ≡ refusal ∷ 0 ∷ 0 ∷ 0 ∷ records ∷ bytes ∷ []

-- how many flows are open, where the state is sound
pub record CountedFlows (s : List ℕ) (r : ℕ) : Type 0 where
  pub sound : Sound s → r ≡ length (meaning s).flows
  pub damaged : (Sound s → ⊥) → r ≡ 2 ^ 64 - 1
