-- What the functions inside a call ask, and a sweep to a clock that is known. Assumes nothing.
use Rattle.std.specs.Prelude.{ℕ, ◌≤◌, ◌≡◌, List, length, take}
use Rattle.table.specs.View.{view}
use Rattle.rules.specs.Rules.{Settings, Engine, Told, leaves, swept, staying, handed}
use Rattle.rules.specs.Engine.{engine}
use Rattle.state.specs.State.{Sound, SoundHeader, header_in, capacity_in, settings_in}
use Rattle.state.specs.Ready.{Ready}
use Rattle.plan.specs.Plan.{Planned, Gathered}

-- a sound state, with the call's own memory made for it
pub record SoundReady (s index free : List ℕ) : Type 0 where
  pub sound : Sound s
  pub ready : Ready s (capacity_in s) index free

-- ## A sweep

-- a sweep to clock w: "sweep at time t" once its clock is known
abbrev pub swept_to : Settings → ℕ → ℕ → Engine engine → Told engine
swept_to settings room w e =
    handed engine room (swept engine settings w e.flows) e (record { clock = w; flows = staying engine settings w e.flows })

-- a state of capacity c and timeout T whose n slots that leave at clock w are listed: its queue names the others
pub record SweepPlanned (c T w : ℕ) (s leaving : List ℕ) (n : ℕ) (index free : List ℕ) : Type 0 where
  pub own : c ≡ capacity_in s
  pub timeout : T ≡ (header_in s).timeout.0
  pub header : SoundHeader (header_in s) (length s)
  pub still : T ≡ 0 → w ≡ 0
  pub ready : Ready s c index free
  pub few : n ≤ c
  pub long : n ≤ length leaving
  pub plan : Planned c T (leaves engine (settings_in s) w) (view c s).table (view c s).tree (take n leaving)

-- ## A drain

-- a sound state of capacity c whose n open slots are listed
pub record DrainPlanned (c : ℕ) (s leaving : List ℕ) (n : ℕ) (index free : List ℕ) : Type 0 where
  pub own : c ≡ capacity_in s
  pub sound : Sound s
  pub ready : Ready s c index free
  pub long : n ≤ length leaving
  pub all : Gathered c (view c s).table (take n leaving) n
