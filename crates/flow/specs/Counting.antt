-- Counting (document 01): how a record opens, and what one packet adds to it.
use Rattle.std.specs.Prelude.{ℕ, min, max, ◌+◌, ◌/◌, ◌%◌, ◌^◌, ◌<◌, Bool, cond, ◌&&◌, ◌||◌, leb, ltb, eqb, None, Option, Some}
use Rattle.stats.specs.declared.counts.TcpFlagCounts.{TcpFlagCounts}
use Rattle.stats.specs.declared.counts.DirectionStats.{DirectionStats}
use Rattle.stats.specs.declared.counts.NetworkStats.{NetworkStats}
use Rattle.stats.specs.declared.counts.CaptureStats.{CaptureStats}
use Rattle.stats.specs.Range.{widened}
use Rattle.stats.specs.Counting.{counted_direction, RoomForPacket}
use Rattle.flow.specs.declared.time.Nanos.{Nanos}
use Rattle.flow.specs.declared.time.StartState.{StartState}
use Rattle.flow.specs.declared.time.TimeResolution.{TimeResolution}
use Rattle.flow.specs.declared.time.EndReason.{EndReason}
use Rattle.flow.specs.declared.time.FlowTime.{FlowTime}
use Rattle.flow.specs.declared.record.Direction.{Direction}
use Rattle.flow.specs.declared.record.PacketFacts.{PacketFacts}
use Rattle.flow.specs.declared.record.FlowRecord.{FlowRecord}
use Rattle.stats.specs.declared.range.Range.{Range}

-- the set flags: a mask, from bit 0 fin, syn, rst, psh, ack, urg, ece, cwr, ns
abbrev pub mask_of : Option ℕ → ℕ
mask_of None = 0
mask_of (Some mask) = mask

abbrev pub no_flags : TcpFlagCounts
no_flags = record { fin = 0; syn = 0; rst = 0; psh = 0; ack = 0; urg = 0; ece = 0; cwr = 0; ns = 0 }

abbrev pub nothing_yet : DirectionStats
nothing_yet = record { packets = 0; frame_octets = 0; packet_length = None; tcp_flags = no_flags }

-- "start state is NotApplicable unless protocol is 6, else SynObserved with SYN, else MidStream"
abbrev pub start_state_of : ℕ → PacketFacts → StartState
start_state_of protocol p =
    cond (eqb protocol 6)
    (cond (eqb (mask_of p.tcp_flags / 2 % 2) 1) StartState.SynObserved StartState.MidStream)
    StartState.NotApplicable

-- "start and end are the packet's time"; no end reason yet
abbrev pub opening_time : Nanos → TimeResolution → StartState → FlowTime
opening_time at resolution state = record { start = at; end = at; resolution = resolution; start_state = state; end_reason = None }

-- Counting, "opening": the resolution given, DSCP and ECN of the first packet; it is not counted here
unfoldable pub opened_of : TimeResolution → ℕ → PacketFacts → FlowRecord
opened_of resolution protocol p = record {
  time = opening_time p.time resolution (start_state_of protocol p);
  forward = nothing_yet;
  reverse = nothing_yet;
  network = record { ttl = None; dscp = p.dscp; ecn = p.ecn };
  transport = record { icmp = None };
  capture = record { captured_octets = 0; truncated = Bool.false };
}

-- "a SYN at or before start turns MidStream to SynObserved"
abbrev pub start_state_after : StartState → Bool → StartState
start_state_after StartState.SynObserved early-syn = StartState.SynObserved
start_state_after StartState.MidStream early-syn = cond early-syn StartState.SynObserved StartState.MidStream
start_state_after StartState.NotApplicable early-syn = StartState.NotApplicable

-- ".. tested before start moves; start and end widen"
abbrev pub counted_time : FlowTime → Nanos → ℕ → FlowTime
counted_time t at mask = record {
  start = record { 0 = min t.start.0 at.0 };
  end = record { 0 = max t.end.0 at.0 };
  resolution = t.resolution;
  start_state = start_state_after t.start_state (eqb (mask / 2 % 2) 1 && leb at.0 t.start.0);
  end_reason = t.end_reason;
}

-- "TTL widens if present"
abbrev pub widened_by : Option (Range ℕ) → Option ℕ → Option (Range ℕ)
widened_by range None = range
widened_by range (Some ttl) = widened range ttl

-- "ICMP keeps the first one present"
abbrev pub first_of : Option ℕ → Option ℕ → Option ℕ
first_of None new = new
first_of (Some x) new = Some x

abbrev pub counted_network : NetworkStats → Option ℕ → NetworkStats
counted_network n ttl = record { ttl = widened_by n.ttl ttl; dscp = n.dscp; ecn = n.ecn }

-- captured is below frame
abbrev pub is_truncated : PacketFacts → Bool
is_truncated p = ltb p.captured_octets p.frame_octets

-- "captured octets add; truncated is set if captured is below frame"
abbrev pub counted_capture : CaptureStats → PacketFacts → CaptureStats
counted_capture c p = record {
  captured_octets = c.captured_octets + p.captured_octets;
  truncated = c.truncated || is_truncated p;
}

-- everything but the directions' own counts
unfoldable pub counted_rest : FlowRecord → PacketFacts → DirectionStats → DirectionStats → FlowRecord
counted_rest r p forward reverse = record {
  time = counted_time r.time p.time (mask_of p.tcp_flags);
  forward = forward;
  reverse = reverse;
  network = counted_network r.network p.ttl;
  transport = record { icmp = first_of r.transport.icmp p.icmp };
  capture = counted_capture r.capture p;
}

-- a direction with the packet counted on it
unfoldable pub taken : DirectionStats → PacketFacts → DirectionStats
taken d p = counted_direction d p.frame_octets (mask_of p.tcp_flags)

-- Counting, "each packet": the record with the packet counted in its direction
unfoldable pub counted_of : FlowRecord → Direction → PacketFacts → FlowRecord
counted_of r Direction.Forward p = counted_rest r p (taken r.forward p) r.reverse
counted_of r Direction.Reverse p = counted_rest r p r.forward (taken r.reverse p)

-- the record with its end reason
unfoldable pub closed : FlowRecord → EndReason → FlowRecord
closed r reason = record {
  time = record { start = r.time.start; end = r.time.end; resolution = r.time.resolution; start_state = r.time.start_state; end_reason = Some reason };
  forward = r.forward;
  reverse = r.reverse;
  network = r.network;
  transport = r.transport;
  capture = r.capture;
}

-- packets in both directions
abbrev pub both_ways : FlowRecord → Bool
both_ways r = ltb 0 r.forward.packets && ltb 0 r.reverse.packets

-- the counts with the packet are at most 2^64 − 1: packets, and octets, of both directions together, and captured octets
unfoldable pub has_room : FlowRecord → PacketFacts → Bool
has_room r p =
    ltb (r.forward.packets + r.reverse.packets + 1) (2 ^ 64)
    && ltb (r.forward.frame_octets + r.reverse.frame_octets + p.frame_octets) (2 ^ 64)
    && ltb (r.capture.captured_octets + p.captured_octets) (2 ^ 64)

-- what counting asks of the numbers, so that no sum wraps
pub record RoomToCount (r : FlowRecord) (p : PacketFacts) : Type 0 where
  pub forward : RoomForPacket r.forward p.frame_octets
  pub reverse : RoomForPacket r.reverse p.frame_octets
  pub captured : r.capture.captured_octets + p.captured_octets < 2 ^ 64
