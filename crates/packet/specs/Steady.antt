-- A packet of a flow that is open and stays open, where nothing leaves. Assumes nothing.
use Rattle.std.specs.Prelude.{ℕ, max, ◌≡◌, Bool, true, false, cond, List, eqb, Some, None}
use Rattle.memory.specs.Decides.{Decides}
use Rattle.slots.specs.Table.{slots}
use Rattle.table.specs.View.{view}
use Rattle.flow.specs.Counting.{has_room}
use Rattle.flow.specs.declared.record.Direction.{Direction}
use Rattle.flow.specs.declared.record.PacketFacts.{PacketFacts}
use Rattle.flow.specs.declared.time.Idle.{Idle}
use Rattle.flow.specs.declared.time.TimeResolution.{TimeResolution}
use Rattle.wire.specs.PacketTheorems.{PacketInRange}
use Rattle.wire.specs.declared.packet.Packet.{Packet}
use Rattle.plain.specs.Plain.{plain_at, key_read}
use Rattle.plain.specs.declared.Plain.{Plain}
use Rattle.rules.specs.Rules.{Flow, old, ending}
use Rattle.rules.specs.Engine.{engine, time_of}
use Rattle.state.specs.State.{header_in}
use Rattle.plan.specs.Plan.{NothingDue}
use Rattle.decide.specs.Decide.{staying_slots, ended_flow, taker_on}
use Rattle.packet.specs.declared.Step.{Step}
use Rattle.packet.specs.Step.{InCall, PacketDone}

-- the clock once the packet's sweep is done
abbrev pub clock_then : List ℕ → ℕ → Packet → ℕ
clock_then s T p = cond (eqb T 0) (header_in s).clock.0 (max (header_in s).clock.0 (time_of p))

-- a call in order, a packet in range whose plain key stands in the batch
pub record SteadyAsked (s index : List ℕ) (c : ℕ) (idle : Idle) (facts : PacketFacts) (batch : List ℕ) (from : ℕ)
    (key : Plain) : Type 0 where
  pub free : List ℕ
  pub resolution : TimeResolution
  pub call : InCall s index free c idle resolution
  pub in_range : PacketInRange (record { facts = facts; key = key_read batch from })
  pub plain : Some key ≡ plain_at batch from

-- the packet is counted on an open flow, and nothing else happens
pub record Steady (s : List ℕ) (c T L w : ℕ) (p : Packet) : Type 0 where
  pub quiet : NothingDue c T L w (view c s).tree
  pub unended : ended_flow p (staying_slots T L w (slots s c)) ≡ None
  pub direction : Direction
  pub flow : Flow engine
  pub taker : taker_on p (staying_slots T L w (slots s c)) ≡ old direction flow
  pub room : has_room flow.held p.facts ≡ true
  pub stays_open : ending engine None p (old direction flow) ≡ None

-- nothing was refused, opened or finished
abbrev pub quiet_step : Step
quiet_step = record { refusal = None; opened = false; records = 0; bytes = 0 }

-- counted where its flow's record stands, or left to the general way
pub record SteadyTaken (p : Packet) (s index : List ℕ) (c : ℕ) (idle : Idle) (r : Bool) (s' : List ℕ) : Type 0 where
  pub which : Decides r (Steady s c idle.timeout.0 idle.lateness.0 (clock_then s idle.timeout.0 p) p)
  pub taken : r ≡ true → (room free : List ℕ) (resolution : TimeResolution) → InCall s index free c idle resolution
      → PacketDone p s room c idle resolution quiet_step s' room index free
  pub left : r ≡ false → s' ≡ s
