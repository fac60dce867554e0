-- What the steps inside one packet ask and promise: its sweep is planned, what it does is decided, and then it is done or refused. Assumes
-- nothing.
use Rattle.forms.specs.declared.refusal.Refusal.{Refusal}
use Rattle.forms.specs.Refusals.{stop_number}
use Rattle.std.specs.Prelude.{ℕ, ◌+◌, ◌*◌, ◌≤◌, ◌<◌, max, ◌≡◌, false, not, cond, List, map, ◌++◌, leb, eqb, length, take, None, Option, Some, is_some}
use Rattle.slots.specs.Table.{slot, slots}
use Rattle.table.specs.View.{view}
use Rattle.flow.specs.declared.time.EndReason.TheVariants.{IdleTimeout, Fin}
use Rattle.flow.specs.declared.time.TimeResolution.{TimeResolution}
use Rattle.wire.specs.PacketTheorems.{PacketInRange}
use Rattle.wire.specs.declared.packet.Packet.{Packet}
use Rattle.rules.specs.Rules.{Flow, Finished, by_key, without, ended, ended_for, finish_or, keeping, sizes}
use Rattle.rules.specs.Engine.{engine, key_bytes, written}
use Rattle.rules.specs.Slots.{Slots, meaning}
use Rattle.state.specs.Slot.{flow_in}
use Rattle.state.specs.State.{header_in, slots_of}
use Rattle.state.specs.Names.{flows_of}
use Rattle.state.specs.Ready.{Ready}
use Rattle.plan.specs.Plan.{leaves_by, Planned, PlanMade}
use Rattle.hand.specs.Act.{Listed}
use Rattle.hand.specs.Acting.{Busy, Acted, emptied_at}
use Rattle.decide.specs.Decide.{staying_slots, Stays, Decided}
use Rattle.decide.specs.Settle.{SlotSound}
use Rattle.decide.specs.declared.decide.Decision.{Decision}
use Rattle.act.specs.Clock.{clocked_at}
use Rattle.act.specs.Keep.{flow_under}
use Rattle.act.specs.Settle.{Filled}
use Rattle.sweeps.specs.Promise.{Left}
use Rattle.packet.specs.declared.Step.{Step}
use Rattle.packet.specs.declared.Plan.{Plan}
use Rattle.flow.specs.declared.time.EndReason.{EndReason}

-- ## The records that a packet finishes

-- the flow of a slot that was found, by the slot's bytes
abbrev pub flow_found : List ℕ → Option ℕ → Option (Flow engine)
flow_found s (Some i) = Some (flow_in (slot s i))
flow_found s None = None

-- those of the flows that leave
abbrev pub swept_by : List ℕ → ℕ → List ℕ → List (Finished engine)
swept_by s c listed = map (finish_or engine IdleTimeout) (flows_of (view c s).table listed)

-- that of the flow that step 1 ends
abbrev pub ended_by : List ℕ → Option ℕ → List (Finished engine)
ended_by s found = ended engine Fin (flow_found s found)

-- that of the flow that takes the packet, where it ends
abbrev pub taken_by : Decision → List (Finished engine)
taken_by d = ended_for engine d.reason (flow_under d.name d.«record»)

-- all of them in order
abbrev pub finished_by : List ℕ → ℕ → List ℕ → Decision → List (Finished engine)
finished_by s c listed d = swept_by s c listed ++ (ended_by s d.ended ++ taken_by d)

-- how many records a flow that ends makes
abbrev pub count_of : Option EndReason → ℕ
count_of None = 0
count_of (Some r) = 1

-- ## The verdict

-- the decision's refusal, or 7 where the records do not fit, or 0
abbrev pub verdict_on : List ℕ → ℕ → List ℕ → Decision → ℕ → ℕ
verdict_on s c listed d room = cond (eqb (stop_number d.refusal) 0) (cond (leb (sizes engine (finished_by s c listed d)) room) 0 7) (stop_number d.refusal)

-- a list of open slots, and the slot of a sound flow where step 1 ends one
pub record VerdictAsked (c : ℕ) (s l : List ℕ) (n : ℕ) (d : Decision) : Type 0 where
  pub listed : Listed c s l n
  pub sound : SlotSound s d.ended

-- ## What was planned and decided

-- the clock's new time, and the slots of the flows that leave by it are listed
pub record PlannedAt (c T L time : ℕ) (s s' l : List ℕ) (r : Plan) : Type 0 where
  pub clock : r.clock.0 ≡ cond (eqb T 0) (header_in s).clock.0 (max (header_in s).clock.0 time)
  pub made : PlanMade c T (leaves_by T L r.clock.0) (view c s) (view c s') (take r.count l) r.count

-- a state in order but for its queue, which does not name the n slots of the list: those whose flows leave by clock w
pub record PlanStands (c T L w : ℕ) (s l : List ℕ) (n : ℕ) (index free : List ℕ) : Type 0 where
  pub size : 256 + 640 * c ≤ length s
  pub some : 0 < c
  pub most : c ≤ 4096
  pub ready : Ready s c index free
  pub few : n ≤ c
  pub long : n ≤ length l
  pub plan : Planned c T (leaves_by T L w) (view c s).table (view c s).tree (take n l)

-- what was decided for some packet in range, whose key has these bytes
pub record DecidedFor (c T L w : ℕ) (s bytes : List ℕ) (d : Decision) : Type 0 where
  pub packet : Packet
  pub resolution : TimeResolution
  pub in_range : PacketInRange packet
  pub key : bytes ≡ key_bytes packet.key
  pub decided : Decided (record { T = T; L = L; resolution = resolution; capacity = c }) s w packet d

-- ## What is done

-- the listed slots leave, and then the one that step 1 ends, which is another: there is room for their records
pub record LeavingAsked (c T L w : ℕ) (s l : List ℕ) (n : ℕ) (found : Option ℕ) (index free out : List ℕ) : Type 0 where
  pub stands : PlanStands c T L w s l n index free
  pub sits : (i : ℕ) → found ≡ Some i → Stays s c T L w i
  pub room : length (written (swept_by s c (take n l))) + length (written (ended_by s found)) ≤ length out

-- the flows that stay
abbrev pub left_slots : (c T L w : ℕ) → List ℕ → Option ℕ → Slots engine
left_slots c T L w s found = emptied_at found (staying_slots T L w (slots s c))

-- they have left, and their records are at the front of the output
pub record LeftHanded (c T L w : ℕ) (s s' index free listed : List ℕ) (found : Option ℕ) (room out : List ℕ) (r : ℕ) : Type 0 where
  pub acted : Acted c T s s' index free (left_slots c T L w s found)
  pub filled : Filled (written (swept_by s c listed) ++ written (ended_by s found)) room out r

-- a step has been made and the clock put to w: the slots are l now
pub record Stepped (c T w : ℕ) (s s' index free : List ℕ) (l : Slots engine) : Type 0 where
  pub busy : Busy c T s' index free
  pub slots_are : slots_of (slots s' c) ≡ l
  pub header : header_in s' ≡ clocked_at w (header_in s)
  pub left : Left (view c s) (view c s')

-- the plan, and what was decided on it
pub record CarryAsked (c T L w : ℕ) (s l : List ℕ) (n : ℕ) (d : Decision) (bytes index free : List ℕ) : Type 0 where
  pub stands : PlanStands c T L w s l n index free
  pub decision : DecidedFor c T L w s bytes d

-- the same, where the packet is not refused
pub record PerformAsked (c T L w : ℕ) (s l : List ℕ) (n : ℕ) (d : Decision) (bytes index free out : List ℕ) : Type 0 where
  pub carry : CarryAsked c T L w s l n d bytes index free
  pub accepted : stop_number d.refusal ≡ 0
  pub fits : sizes engine (finished_by s c (take n l) d) ≤ length out

-- the flows beside the one that takes the packet
abbrev pub beside_found : List ℕ → Option ℕ → List (Flow engine) → List (Flow engine)
beside_found s (Some i) fs = without engine (by_key engine (flow_in (slot s i))) fs
beside_found s None fs = fs

-- the packet was taken
pub record Performed (c T L w : ℕ) (s listed : List ℕ) (d : Decision) (room : List ℕ) (step : Step) (s' out index free : List ℕ) : Type 0 where
  pub accepted : stop_number step.refusal ≡ 0
  pub opened : step.opened ≡ not (is_some d.slot)
  pub records : step.records ≡ length (finished_by s c listed d)
  pub after : Slots engine
  pub stepped : Stepped c T w s s' index free after
  pub means : meaning engine after
      ≡ keeping engine d.reason (flow_under d.name d.«record»)
      (beside_found s d.slot (meaning engine (left_slots c T L w s d.ended)))
  pub filled : Filled (written (finished_by s c listed d)) room out step.bytes

-- the answer to a refused packet
abbrev pub refused_step : Refusal → Step
refused_step why = record { refusal = Some why; opened = false; records = 0; bytes = 0 }

-- the packet was refused with this number: the clock stands where it stood, and the slots are as they were
pub record Unperformed (c T : ℕ) (s : List ℕ) (number : ℕ) (room : List ℕ) (step : Step) (s' out index free : List ℕ) : Type 0 where
  pub number_is : stop_number step.refusal ≡ number
  pub nothing : (step.opened ≡ false) × (step.records ≡ 0) × (step.bytes ≡ 0)
  pub stepped : Stepped c T (header_in s).clock.0 s s' index free (slots_of (slots s c))
  pub output : out ≡ room

-- taken or refused, by the verdict
pub record CarriedOut (c T L w : ℕ) (s listed : List ℕ) (d : Decision) (room : List ℕ) (step : Step) (s' out index free : List ℕ) : Type 0 where
  pub taken : verdict_on s c listed d (length room) ≡ 0 → Performed c T L w s listed d room step s' out index free
  pub refused : (verdict_on s c listed d (length room) ≡ 0 → ⊥)
      → Unperformed c T s (verdict_on s c listed d (length room)) room step s' out index free
