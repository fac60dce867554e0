-- A packet counted on a record that a host holds: the refusals, in their order, and the record afterwards. Assumes nothing.
use Rattle.std.specs.Prelude.{ℕ, Bool, cond, ltb, Option, None, Some, Result, Ok, Err}
use Rattle.forms.specs.declared.refusal.Refusal.{Refusal}
use Rattle.flow.specs.declared.record.Direction.{Direction}
use Rattle.flow.specs.declared.record.PacketFacts.{PacketFacts}
use Rattle.flow.specs.declared.record.FlowRecord.{FlowRecord}
use Rattle.flow.specs.declared.time.TimeResolution.{TimeResolution}
use Rattle.flow.specs.Counting.{mask_of, opened_of, counted_of, has_room}
use Rattle.flow.specs.Sound.{sound_aside}

-- the flags are a 9-bit mask; that any other field is in range is its type's to say
abbrev pub packet_in_range : PacketFacts → Bool
packet_in_range p = ltb (mask_of p.tcp_flags) 512

-- Damaged, Packet or Spent, in that order
unfoldable pub refusal_of : FlowRecord → PacketFacts → Option Refusal
refusal_of r p =
    cond (sound_aside r)
    (cond (packet_in_range p) (cond (has_room r p) None (Some Refusal.Spent)) (Some Refusal.Packet))
    (Some Refusal.Damaged)

-- the same in the refusals' numbers
abbrev pub refusal_number : FlowRecord → PacketFacts → ℕ
refusal_number r p = cond (sound_aside r) (cond (packet_in_range p) (cond (has_room r p) 0 6) 4) 3

-- the answer: the refusal, or the record with the packet counted
abbrev pub answer_of : Option Refusal → FlowRecord → Result FlowRecord Refusal
answer_of None new = Ok new
answer_of (Some why) new = Err why

unfoldable pub observed_of : FlowRecord → Direction → PacketFacts → Result FlowRecord Refusal
observed_of r d p = answer_of (refusal_of r p) (counted_of r d p)

-- the refusal in an answer
abbrev pub refusal_in : Result FlowRecord Refusal → Option Refusal
refusal_in (Ok new) = None
refusal_in (Err why) = Some why

-- the record afterwards: a refused one is unchanged
abbrev pub left_by : FlowRecord → Result FlowRecord Refusal → FlowRecord
left_by old (Ok new) = new
left_by old (Err why) = old

-- the answer where the record is stored
abbrev pub stored : Result FlowRecord Refusal → Result Unit Refusal
stored (Ok new) = Ok tt
stored (Err why) = Err why

-- "begun with its first packet counted forward"; Packet where a field is out of range
unfoldable pub begun_of : TimeResolution → ℕ → PacketFacts → Result FlowRecord Refusal
begun_of resolution protocol p =
    cond (packet_in_range p) (Ok (counted_of (opened_of resolution protocol p) Direction.Forward p)) (Err Refusal.Packet)
