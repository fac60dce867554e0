-- What one packet of a batch asks and promises. Assumes nothing.
use Rattle.forms.specs.Refusals.{stop_number}
use Rattle.std.specs.Prelude.{ℕ, ◌≤◌, ◌≡◌, false, List, ◌++◌, length, drop}
use Rattle.table.specs.View.{view}
use Rattle.flow.specs.declared.time.Idle.{Idle}
use Rattle.flow.specs.declared.time.TimeResolution.{TimeResolution}
use Rattle.wire.specs.PacketTheorems.{PacketInRange}
use Rattle.wire.specs.declared.packet.Packet.{Packet}
use Rattle.rules.specs.Rules.{Answer, refused, done, number_of, one_packet}
use Rattle.rules.specs.Engine.{engine, key_bytes, written}
use Rattle.state.specs.State.{Sound, header_in, capacity_in, settings_in, meaning}
use Rattle.state.specs.Ready.{Ready}
use Rattle.packet.specs.declared.Step.{Step}
use Rattle.sweeps.specs.Promise.{Left}

-- a sound state with the call's own memory, and the settings as the call has read them
pub record InCall (s index free : List ℕ) (c : ℕ) (idle : Idle) (resolution : TimeResolution) : Type 0 where
  pub sound : Sound s
  pub ready : Ready s c index free
  pub capacity : c ≡ capacity_in s
  pub timeout : idle.timeout.0 ≡ (header_in s).timeout.0
  pub lateness : idle.lateness.0 ≡ (header_in s).lateness.0
  pub resolution_is : resolution ≡ (settings_in s).resolution

pub record PacketAsked (s index free leaving : List ℕ) (c : ℕ) (idle : Idle) (resolution : TimeResolution) (p : Packet) (bytes : List ℕ) : Type 0 where
  pub call : InCall s index free c idle resolution
  pub list : 4096 ≤ length leaving
  pub in_range : PacketInRange p
  pub key : bytes ≡ key_bytes p.key

-- the packet was refused and nothing was done, or it did what the rules tell
abbrev pub StepTold : Answer engine → List ℕ → List ℕ → Step → List ℕ → List ℕ → Type 0
StepTold (refused r) before room step after out =
    ((stop_number step.refusal) ≡ number_of r) × ((stop_number step.refusal) ≡ 0 → ⊥) × (step.opened ≡ false) × (step.records ≡ 0) × (step.bytes ≡ 0) × (meaning after ≡ meaning before) × (out ≡ room)
StepTold (done d) before room step after out =
    ((stop_number step.refusal) ≡ 0) × (step.opened ≡ d.opening) × (step.records ≡ length d.finished) × (step.bytes ≡ length (written d.finished))
    × (meaning after ≡ d.engine) × (out ≡ written d.finished ++ drop step.bytes room)

-- the state is sound still, with the same settings, and the call's own memory is ready
pub record PacketDone (p : Packet) (before room : List ℕ) (c : ℕ) (idle : Idle) (resolution : TimeResolution) (step : Step) (after out index free : List ℕ) : Type 0 where
  pub told : StepTold (one_packet engine (settings_in before) (length room) p (meaning before)) before room step after out
  pub call : InCall after index free c idle resolution
  pub settings : settings_in after ≡ settings_in before
  pub untouched : Left (view c before) (view c after)
